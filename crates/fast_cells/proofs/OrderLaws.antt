-- What the tests say of a float's digits: one that is not below a positive fraction has no sign, and its digits times
-- its exponent's power are compared with the fraction crosswise. Assumes nothing.
use mathlib.Core.Path.{◌≡◌, refl, sym, subst}
use mathlib.Core.Logic.{◌⊎◌, inl, inr}
use mathlib.Core.Bool.{Bool, true, false, not}
use Prim.Native.Nat.{ℕ, ◌+◌, ◌*◌, ◌≤◌, ◌<◌}
use native.Mathlib.Nat.{mul-pos, mul_assoc, mul-one, le_trans, zero-lt-suc}
use native.Mathlib.Omega.{arith}
use lib.Dec.{T, nltb→le, ltb→lt, lit≤}
use lib.IntN.{ℤ, pos}
use lib.Ieee.{Float, nan, inf, fin, binary64, up, down, below, le, lt, of_int}
use lib.Ieee.Exact.{HasValue}
use lib.Ieee.Fits.{down_pos}
use Rattle.exact.proofs.Integer.{counted, of_int_value}
use Rattle.exact.proofs.Operands.{lt_values}
use Rattle.exact.proofs.Order.{le_values}
use Rattle.exact.proofs.Value.{rescale}
use Rattle.fast_cells.specs.Inner.{under}

-- x is finite, without a sign, and p / q at least
pub record Above (p q : ℕ) (x : Float) : Type 0 where
  pub digits : ℕ
  pub place : ℤ
  pub is : x ≡ fin false digits place
  pub least : p * down place ≤ digits * up place * q

signless : (p q m : ℕ) (e : ℤ) (s : Bool) → 0 < p → T (not (below s (m * up e * q) false (p * down e)))
    → Above p q (fin s m e)
signless p q m e false P h = record { digits = m; place = e; is = refl; least = nltb→le (m * up e * q) (p * down e) h }
signless p q m e true P h =
    absurd (none (m * up e * q) (p * down e) (mul-pos P (down_pos e)) (nltb→le 0 (m * up e * q + p * down e) h))
  where
    none : (a b : ℕ) → 0 < b → a + b ≤ 0 → ⊥
    none a b B h = omega arith

pub above : (p q : ℕ) (y x : Float) → 0 < p → 0 < q → HasValue y false p q → T (le y x) → (x ≡ inf false) ⊎ Above p q x
above p q nan x P Q v h = absurd v
above p q (inf t) x P Q v h = absurd v
above p q (fin t n d) nan P Q v h = absurd (unfold le lt in h)
above p q (fin t n d) (inf true) P Q v h = absurd (unfold le lt in h)
above p q (fin t n d) (inf false) P Q v h = inl refl
above p q (fin t n d) (fin s m e) P Q v h =
    inr (signless p q m e s P
    (subst T
    (le_values (fin t n d) (fin s m e) false s (p * down e) (m * up e * q) (down e * q) (mul-pos (down_pos e) Q)
    (rescale (fin t n d) false p q (p * down e) (down e * q) Q (sym (mul_assoc p (down e) q)) v)
    (rescale (fin s m e) s (m * up e) (down e) (m * up e * q) (down e * q) (down_pos e) (turn (m * up e) (down e) q)
    (refl, refl)))
    h))
  where
    turn : (a d q : ℕ) → a * (d * q) ≡ a * q * d
    turn a d q = omega arith

-- below a whole number
module _ (reach : ℕ) (R : reach ≤ 65536) where
  pub whole_value : HasValue (of_int binary64 (pos reach)) false reach 1
  whole_value = of_int_value binary64 (pos reach) (counted binary64 (pos reach) (le_trans R (lit≤ tt)))

  pub under_is : (s : Bool) (m : ℕ) (e : ℤ) → under reach (fin s m e) ≡ below s (m * up e) false (reach * down e)
  under_is s m e =
      lt_values (fin s m e) (of_int binary64 (pos reach)) s false (m * up e) (reach * down e) (down e) (down_pos e)
      (refl, refl)
      (rescale (of_int binary64 (pos reach)) false reach 1 (reach * down e) (down e) (zero-lt-suc 0)
      (sym (mul-one (reach * down e))) whole_value)

  pub under_digits : (m : ℕ) (e : ℤ) → T (under reach (fin false m e)) → m * up e < reach * down e
  under_digits m e h = ltb→lt (m * up e) (reach * down e) (subst T (under_is false m e) h)

  -- no infinity is
  pub under_finite : T (under reach (inf false)) → ⊥
  under_finite h = none (of_int binary64 (pos reach)) whole_value h
    where
      none : (y : Float) → HasValue y false reach 1 → T (lt (inf false) y) → ⊥
      none nan v h = absurd v
      none (inf s) v h = absurd v
      none (fin s m e) v h = absurd (unfold lt in h)
