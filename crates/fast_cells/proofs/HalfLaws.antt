-- A float of 0.5 or more, less 0.5, is one rounded fraction. It is +0 or 2^-73 at least, since such a float has no
-- digits below 2^-53; and from 2^30 on it is 2^29 at least. Assumes nothing.
use mathlib.Core.Path.{◌≡◌, refl, sym, ap, ◌∙◌, subst}
use mathlib.Core.Logic.{◌⊎◌, inl, inr}
use mathlib.Core.Bool.{Bool, true, false, cond}
use Prim.Native.Nat.{ℕ, zero, suc, ◌-◌, ◌*◌, ◌^◌, ◌≤◌, ◌<◌}
use native.Mathlib.Nat.{le_trans, le_of_lt, mul-pos, one-mul, mul-le-mul_right, zero-lt-suc}
use native.Mathlib.Omega.{arith}
use borrow.Author.Tests.{le-ltb}
use lib.Dec.{T}
use lib.IntN.{ℤ, pos, negsuc}
use lib.Pow.{pow_pos}
use lib.Ieee.{Float, fin, Format, binary64, up, down, round, sum, le, of_bits, fits}
use lib.Ieee.Bits.{of_bits-fits}
use lib.Ieee.Exact.{HasValue}
use lib.Ieee.Fits.{down_pos}
use lib.Ieee.Order.{round_mono}
use Rattle.exact.specs.Double.{◌⊖◌}
use Rattle.exact.specs.Warp.{half}
use Rattle.exact.proofs.Held.{round_held, round_zero}
use Rattle.exact.proofs.Nan.{zero_bits}
use Rattle.exact.proofs.Operands.{sub_values}
use Rattle.exact.proofs.Units.{units}
use Rattle.exact.proofs.Value.{rescale}
use Rattle.fast_cells.specs.Inner.{nought}

-- ---- a difference that is not negative, rounded
pub sum_less : (f : Format) (a b c : ℕ) → b ≤ a → sum f false a true b c ≡ round f false (a - b) c
unfolding sum
sum_less f a b c h = ap (λ (t : Bool). cond t (round f true (b - a) c) (round f false (a - b) c)) (le-ltb a b h)

pub half_value : HasValue half false 1 2
half_value = unfold of_bits in (refl, refl)

-- x and 0.5 over twice the denominator of x
pub twice : (m : ℕ) (e : ℤ) → HasValue (fin false m e) false (m * up e * 2) (down e * 2)
twice m e = rescale (fin false m e) false (m * up e) (down e) (m * up e * 2) (down e * 2) (down_pos e)
    (turn (m * up e) (down e)) (refl, refl)
  where
    turn : (a d : ℕ) → a * (d * 2) ≡ a * 2 * d
    turn a d = omega arith

pub half_over : (d : ℕ) → HasValue half false d (d * 2)
half_over d = rescale half false 1 2 d (d * 2) (zero-lt-suc 1) (one-mul (d * 2)) half_value

pub twice_pos : (e : ℤ) → 0 < down e * 2
twice_pos e = mul-pos (down_pos e) (zero-lt-suc 1)

pub less_half : (m : ℕ) (e : ℤ) → down e ≤ m * up e * 2 → fin false m e
    ⊖ half ≡ round binary64 false (m * up e * 2 - down e) (down e * 2)
less_half m e h =
    sub_values binary64 (fin false m e) half false false (m * up e * 2) (down e) (down e * 2) (twice_pos e) (twice m e)
    (half_over (down e))
    ∙ sum_less binary64 (m * up e * 2) (down e) (down e * 2) h

pub once : (d a : ℕ) → 1 * d ≤ a → d ≤ a
once d a h = omega arith

-- ---- it is not negative, and not tiny
abbrev pub tiny : Float
tiny = of_bits binary64 0x3b60_0000_0000_0000  -- 2^-73

pub tiny_value : HasValue tiny false 1 (2 ^ 73)
tiny_value = unfold of_bits in (refl, refl)

pub round_from_zero : (n c : ℕ) → 0 < c → T (le nought (round binary64 false n c))
round_from_zero n c C =
    subst (λ (y : Float). T (le y (round binary64 false n c))) (round_zero binary64 false 1 (zero-lt-suc 0)
    ∙ sym (zero_bits binary64))
    (round_mono binary64 0 1 n c (zero-lt-suc 0) C (none c (n * 1)))
  where
    none : (c b : ℕ) → 0 * c ≤ b
    none c b = omega arith

-- ---- where digits end: a significand has 53
pub digits_end : (m : ℕ) (e : ℤ) (q : ℕ) → 0 < q → m < 2 ^ 53 → 1 * down e ≤ m * up e * q → down e ≤ 2 ^ 53 * q
digits_end m (pos k) q Q h l = le_trans Q (more q)
  where
    more : (q : ℕ) → q ≤ 9007199254740992 * q
    more q = omega arith
digits_end m (negsuc k) q Q h l = le_trans (plain (2 ^ suc k) m q l) (mul-le-mul_right q (le_of_lt h))
  where
    plain : (d m q : ℕ) → 1 * d ≤ m * 1 * q → d ≤ m * q
    plain d m q l = omega arith

pub significand : (m : ℕ) (e : ℤ) → T (fits binary64 (fin false m e)) → m < 2 ^ 53
significand m e t = (units binary64 false m e t).1.short

-- ---- u - 0.5 is +0 or not tiny
pub coarse : (m : ℕ) (e : ℤ) → T (fits binary64 (fin false m e)) → 1 * down e ≤ m * up e * 2
    → (fin false m e ⊖ half ≡ nought) ⊎ T (le tiny (fin false m e ⊖ half))
coarse m e t l = go (m * up e * 2 - down e) (less_half m e (once (down e) (m * up e * 2) l))
  where
    far : (n d : ℕ) → d ≤ 9007199254740992 * 2 → 1 * (d * 2) ≤ suc n * 9444732965739290427392
    far n d h = omega arith

    go : (n : ℕ) → fin false m e ⊖ half ≡ round binary64 false n (down e * 2) → (fin false m e ⊖ half ≡ nought)
        ⊎ T (le tiny (fin false m e ⊖ half))
    go zero i = inl (i ∙ round_zero binary64 false (down e * 2) (twice_pos e) ∙ sym (zero_bits binary64))
    go (suc n) i =
        inr (subst (λ (x : Float). T (le tiny x)) (sym i)
        (subst (λ (y : Float). T (le y (round binary64 false (suc n) (down e * 2))))
        (round_held binary64 tiny false 1 (2 ^ 73) (pow_pos 73) (of_bits-fits binary64 0x3b60_0000_0000_0000)
        tiny_value)
        (round_mono binary64 1 (2 ^ 73) (suc n) (down e * 2) (pow_pos 73) (twice_pos e)
        (far n (down e) (digits_end m e 2 (zero-lt-suc 1) (significand m e t) l)))))

-- ---- from 2^30 on
abbrev pub large : Float
large = of_bits binary64 0x41c0_0000_0000_0000  -- 2^29

pub large_value : HasValue large false 536870912 1
large_value = unfold of_bits in (refl, refl)

-- more than 2^30, less 0.5
pub large_less : (a d : ℕ) → 0 < d → 1073741824 * d < a → T (le large (round binary64 false (a * 2 - d) (d * 2)))
large_less a d D h =
    subst (λ (y : Float). T (le y (round binary64 false (a * 2 - d) (d * 2))))
    (round_held binary64 large false 536870912 1 (zero-lt-suc 0) (of_bits-fits binary64 0x41c0_0000_0000_0000)
    large_value)
    (round_mono binary64 536870912 1 (a * 2 - d) (d * 2) (zero-lt-suc 0) (mul-pos D (zero-lt-suc 1)) (far a d h))
  where
    far : (a d : ℕ) → 1073741824 * d < a → 536870912 * (d * 2) ≤ (a * 2 - d) * 1
    far a d h = omega arith
