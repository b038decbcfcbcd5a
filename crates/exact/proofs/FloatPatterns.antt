-- What is written for a float that a format holds: without its sign a finite value's pattern lies below the infinity's,
-- and no number's lies above it; the one pattern of the NaN does. A finite value's is counted from its digits, the
-- others' by reading the pattern again. Provides: `infinity_bits`, `nan_bits`, `number_bits`, `finite_bits`. Assumes
-- nothing.
use mathlib.Core.Path.{◌≡◌, refl, sym, ap, ◌∙◌, subst}
use Prim.Native.Nat.{ℕ, suc, ◌+◌, ◌-◌, ◌*◌, ◌/◌, ◌%◌, ◌^◌, ◌≤◌, ◌<◌}
use native.Mathlib.Nat.{le_of_eq, mul-le-mul_right}
use native.Mathlib.Omega.{arith}
use mathlib.Core.Bool.{Bool, true, not, cond}
use lib.IntN.{ℤ}
use lib.Dec.{T, nltb→le}
use lib.Ieee.{Float, inf, fin, Format, prec, emax, low, up, down, size, hid, top, ne, fits, is_nan, to_bits}
use lib.Ieee.Bits.{of_bits-to_bits, nan_bits_is, nan_bits_above}
use lib.Ieee.Digits.{size-le}
use lib.Ieee.Fits.{two, reach, kept-lt}
use Rattle.exact.proofs.Formats.{infinite, twice_hid}
use Rattle.exact.proofs.Nan.{from_is_nan, nan_test}
use Rattle.exact.proofs.Patterns.{pattern_infinity, pattern_back}
use Rattle.exact.proofs.Units.{units, count}

pub infinity_bits : (f : Format) (s : Bool) → to_bits f (inf s) ≡ cond s (top f) 0 + infinite f
infinity_bits f s = ap (to_bits f) (sym (pattern_infinity f s)) ∙ pattern_back f s (infinite f) (le_of_eq refl)

pub nan_bits : (f : Format) (x : Float) → ne x x ≡ true → to_bits f x ≡ infinite f + hid f / 2
unfolding to_bits
nan_bits f x h = ap (to_bits f) (from_is_nan x (sym (nan_test x) ∙ h))

-- a number's pattern, without its sign
pub number_bits : (f : Format) (x : Float) → T (fits f x) → T (not (is_nan x)) → to_bits f x % top f ≤ infinite f
number_bits f x t n =
    nltb→le (infinite f) (to_bits f x % top f)
    (subst (λ (b : Bool). T (not b)) (ap is_nan (sym (of_bits-to_bits f x t)) ∙ sym (nan_bits_is f (to_bits f x))
    ∙ nan_bits_above f (to_bits f x)) n)

-- ---- a finite value's: the field counts the digits that are dropped of its units, and those that are kept are at most
-- twice the leading one
written : (f : Format) (s : Bool) (m : ℕ) (e : ℤ) (n : ℕ) → m * up e * 2 ^ low f / down e ≡ n
    → to_bits f (fin s m e) ≡ cond s (top f) 0 + (size n - prec f) * hid f + n / 2 ^ (size n - prec f)
unfolding to_bits
written f s m e n h = ap (λ (z : ℕ). cond s (top f) 0 + (size z - prec f) * hid f + z / 2 ^ (size z - prec f)) h

pub finite_bits : (f : Format) (s : Bool) (m : ℕ) (e : ℤ) → T (fits f (fin s m e))
    → to_bits f (fin s m e) < cond s (top f) 0 + infinite f
finite_bits f s m e t =
    let u = units f s m e t in
    let n = m * 2 ^ u.0 in
    subst (λ (z : ℕ). z < cond s (top f) 0 + infinite f)
    (sym (written f s m e n (count s s m e n (2 ^ low f) u.1.value)))
    (below (cond s (top f) 0) (size n - prec f) (hid f) (n / 2 ^ (size n - prec f)) (2 * emax f)
    (fields (emax f) (prec f) (size n) (two f) (reach f) (size-le n (low f + suc (emax f)) u.1.under))
    (subst (λ (z : ℕ). n / 2 ^ (size n - prec f) < z) (twice_hid f) (kept-lt (prec f) n)))
  where
    fields : (e p z : ℕ) → 2 ≤ p → p ≤ suc e → z ≤ e + p - 2 + suc e → z - p + 1 ≤ 2 * e
    fields e p z P R h = omega arith

    below : (s k h t o : ℕ) → k + 1 ≤ o → t < 2 * h → s + k * h + t < s + (o + 1) * h
    below s k h t o K H = let l : (k + 1) * h ≤ o * h = mul-le-mul_right h K in omega arith
