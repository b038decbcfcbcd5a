-- The floor of a number that is not negative and below `reach`: a natural number below it, of a -0 too. And what lies
-- far from `reach`. Assumes nothing.
use mathlib.Core.Path.{◌≡◌, refl, sym, subst}
use mathlib.Core.Logic.{inl, inr}
use mathlib.Core.Bool.{Bool, true, false}
use Prim.Native.Nat.{ℕ, zero, suc, ◌+◌, ◌*◌, ◌/◌, ◌≤◌, ◌<◌}
use native.Mathlib.Nat.{
  lt_of_lt_of_le,
  mul-pos,
  mul-one,
  zero-mul,
  mul-le-mul_right,
  zero-lt-suc,
  div-lt_iff_lt-mul,
  lt_irrefl,
}
use native.Mathlib.Omega.{arith}
use lib.Dec.{T, le→leb, ltb→lt, nltb→le, eqb, lit<}
use lib.IntN.{ℤ, pos}
use lib.Ieee.{Float, nan, inf, fin, binary64, up, down, le, of_bits}
use lib.Ieee.Exact.{HasValue}
use lib.Ieee.Fits.{up_pos, down_pos}
use Rattle.exact.specs.Double.{usable_limit}
use Rattle.exact.proofs.Nan.{zero_bits}
use Rattle.exact.proofs.Order.{le_values, sizes_order}
use Rattle.exact.proofs.Value.{rescale}
use Rattle.number.specs.Floor.{floorℤ, in_domain, is_zero}
use Rattle.number.specs.Magnitude.{abs, within}
use Rattle.number.proofs.FloorValue.{floor_none}
use Rattle.fast_cells.specs.Inner.{nought, under, Low}
use Rattle.fast_cells.proofs.OrderLaws.{above, under_is, under_digits, under_finite}

-- ---- the tests of digits: a -0 is not negative, and 2^30 is the limit
pub zero_digits : (m : ℕ) (e : ℤ) → T (le nought (fin true m e)) → m * up e ≡ 0
zero_digits m e l = none (m * up e)
    (nltb→le 0 (m * up e + 0)
    (subst T (le_values nought (fin true m e) false true 0 (m * up e) (down e) (down_pos e) zero_value (refl, refl)) l))
  where
    zero_value : HasValue nought false 0 (down e)
    zero_value = subst (λ (y : Float). HasValue y false 0 (down e)) (sym (zero_bits binary64)) (refl, zero-mul (down e))

    none : (a : ℕ) → a + 0 ≤ 0 → a ≡ 0
    none a h = omega arith

limit_value : HasValue usable_limit false 1073741824 1
limit_value = unfold of_bits in (refl, refl)

pub within_is : (s : Bool) (m : ℕ) (e : ℤ) → m * up e ≤ 1073741824 * down e → T (within usable_limit (fin s m e))
within_is s m e h =
    unfold within abs in
    subst T (sym (sizes_order (fin false m e) usable_limit (m * up e) (1073741824 * down e) (down e) (down_pos e)
    (refl, refl)
    (rescale usable_limit false 1073741824 1 (1073741824 * down e) (down e) (zero-lt-suc 0)
    (sym (mul-one (1073741824 * down e))) limit_value)))
    (le→leb (m * up e) (1073741824 * down e) h)

pub low_nought : Low nought
low_nought = unfold in_domain floorℤ of_bits in record { domain = tt; whole = 0; small = lit< tt; floor = refl }

-- ---- the floor of a number below `reach`
pub record Floored (reach : ℕ) (x : Float) : Type 0 where
  pub domain : T (in_domain x)
  pub whole : ℕ
  pub below : whole < reach
  pub floor : floorℤ x ≡ pos whole

module _ (reach : ℕ) (R : reach ≤ 65536) where
  pub floored_low : {x : Float} → Floored reach x → Low x
  floored_low f = record { domain = f.domain; whole = f.whole; small = lt_of_lt_of_le f.below R; floor = f.floor }

  pub floored : (m : ℕ) (e : ℤ) → m * up e < reach * down e → Floored reach (fin false m e)
  floored m e h = record {
    domain = unfold in_domain in
        le→leb (m * up e) (2147483648 * down e) (wide (m * up e) (down e) h (mul-le-mul_right (down e) R));
    whole = m * up e / down e;
    below = (div-lt_iff_lt-mul (down_pos e)).1 h;
    floor = unfold floorℤ in refl;
  }
    where
      wide : (a d : ℕ) → a < reach * d → reach * d ≤ 65536 * d → a ≤ 2147483648 * d
      wide a d h l = omega arith

  -- a -0 too
  floored_minus : (m : ℕ) (e : ℤ) → m * up e ≡ 0 → 0 < m * up e + reach * down e → Floored reach (fin true m e)
  floored_minus m e z h = record {
    domain = unfold in_domain in le→leb (m * up e) (2147483648 * down e) (none (m * up e) (2147483648 * down e) z);
    whole = 0;
    below = some reach (m * up e) (down e) z h;
    floor = floor_none true m e (unfold is_zero in no_digits m (up e) (up_pos e) z);
  }
    where
      none : (a b : ℕ) → a ≡ 0 → a ≤ b
      none a b z = omega arith

      some : (r a d : ℕ) → a ≡ 0 → 0 < a + r * d → 0 < r
      some zero a d z h = omega arith
      some (suc r) a d z h = omega arith

      no_digits : (m k : ℕ) → 0 < k → m * k ≡ 0 → T (eqb m 0)
      no_digits zero k K z = tt
      no_digits (suc m) k K z = absurd (lt_irrefl 0 (subst (λ (n : ℕ). 0 < n) z (mul-pos (zero-lt-suc m) K)))

  pub floored_any : (x : Float) → T (le nought x) → T (under reach x) → Floored reach x
  floored_any nan l h = absurd (unfold le of_bits in l)
  floored_any (inf true) l h = absurd (unfold le of_bits in l)
  floored_any (inf false) l h = absurd (under_finite reach R h)
  floored_any (fin false m e) l h = floored m e (under_digits reach R m e h)
  floored_any (fin true m e) l h =
      floored_minus m e (zero_digits m e l)
      (ltb→lt 0 (m * up e + reach * down e) (subst T (under_is reach R true m e) h))

  -- from p on, for a p that is not below 65536, no number is below `reach`
  pub not_far : (p : ℕ) (y : Float) → 65536 ≤ p → HasValue y false p 1 → (x : Float) → T (le y x) → T (under reach x)
      → ⊥
  not_far p y P v x l h = elim (above p 1 y x (lt_of_lt_of_le (zero-lt-suc 65535) P) (zero-lt-suc 0) v l) [
    | inl e ↦ under_finite reach R (subst (λ (y : Float). T (under reach y)) e h)
    | inr a ↦
        none (down a.place) (a.digits * up a.place) (down_pos a.place) a.least
        (mul-le-mul_right (down a.place) P)
        (under_digits reach R a.digits a.place (subst (λ (y : Float). T (under reach y)) a.is h))
        (mul-le-mul_right (down a.place) R)
  ]
    where
      none : (d a : ℕ) → 0 < d → p * d ≤ a * 1 → 65536 * d ≤ p * d → a < reach * d → reach * d ≤ 65536 * d → ⊥
      none d a D h l g r = omega arith
