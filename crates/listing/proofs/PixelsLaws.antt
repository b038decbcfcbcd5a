-- A number of 64ths within the limit is its pixels exactly: the quotient by 64 of a whole number below 2^53 needs no
-- rounding. The sign is the number's, and that of -0 is none. Assumes nothing.
use mathlib.Core.Path.{◌≡◌, refl, sym, subst}
use mathlib.Core.Bool.{Bool, true, false, ◌&&◌, true≢false}
use Prim.Native.Nat.{ℕ, zero, suc, ◌+◌, ◌-◌, ◌*◌, ◌^◌, ◌≤◌, ◌<◌}
use native.Mathlib.Nat.{mul-le-mul_right, mul_assoc, le_trans, lt_of_le_of_lt}
use native.Mathlib.Omega.{arith}
use borrow.Author.Tests.{lt-ltb}
use lib.Dec.{T, ltb, lit<, lit≤}
use lib.IntN.{pos}
use lib.Ieee.{Float, nan, inf, fin, binary64, up, down, of_bits, of_int, round, sum, sub, div, fits}
use lib.Ieee.Exact.{HasValue, round_exact}
use lib.Ieee.Scale.{round_same}
use lib.Ieee.Fits.{down_pos, cond-fits, div-fits, sub-fits}
use Rattle.exact.proofs.Integer.{counted, of_int_value}
use Rattle.exact.proofs.Operands.{sub_values}
use Rattle.listing.specs.Word.{largest_number, sixty_four, pixels}

-- ---- m / 64, rounded, is m / 64
module _ (m : ℕ) (h : m ≤ largest_number) where
  small : m < 2 ^ 53
  small = lt_of_le_of_lt h (lit< tt)

  in_range_law : m * 2 ^ 1068 < 2 ^ (1074 + 1024)
  in_range_law = lt_of_le_of_lt (mul-le-mul_right (2 ^ 1068) h) (lit< tt)

  quotient : (s : Bool) → HasValue (round binary64 s m 64) s m 64
  quotient s = round_exact binary64 s m 64 m 1068 (lit< tt) small in_range_law (sym (mul_assoc m (2 ^ 1068) 64))

cross : (m u d : ℕ) → u * 1 ≡ m * d → u * 1 * 64 ≡ m * (64 * d)
cross m u d e = omega (arith, e)

over_zero : (d : ℕ) → 0 < d → 0 < 64 * d
over_zero d h = omega arith

divided : (x : Float) (m : ℕ) → HasValue x false m 1 → div binary64 x sixty_four ≡ round binary64 false m 64
unfolding div of_bits
divided nan m v = absurd v
divided (inf s) m v = absurd v
divided (fin true n e) m v = absurd (true≢false v.0)
divided (fin false n e) m v =
    round_same binary64 false (n * up e * 1) (64 * down e) m 64 (over_zero (down e) (down_pos e)) (lit< tt)
    (cross m (n * up e) (down e) v.1)

-- ---- 0 - m / 64

nought : HasValue (of_bits binary64 0) false 0 64
unfolding of_bits
nought = (refl, refl)

less : (k : ℕ) → suc k - 0 ≡ suc k
less k = omega arith

taken : (m : ℕ) → m ≤ largest_number → HasValue (sum binary64 false 0 true m 64) (ltb 0 m) m 64
unfolding sum
taken zero h = quotient 0 h false
taken (suc k) h = rw (lt-ltb 0 (suc k) (omega arith), less k) (quotient (suc k) h true)

module _ (m : ℕ) (h : m ≤ largest_number) where
  whole : HasValue (of_int binary64 (pos m)) false m 1
  whole = of_int_value binary64 (pos m) (counted binary64 (pos m) (le_trans h (lit≤ tt)))

  plus : HasValue (div binary64 (of_int binary64 (pos m)) sixty_four) false m 64
  plus = subst (λ (x : Float). HasValue x false m 64) (sym (divided _ m whole)) (quotient m h false)

  minus : HasValue (sub binary64 (of_bits binary64 0) (div binary64 (of_int binary64 (pos m)) sixty_four)) (ltb 0 m) m 64
  minus =
      subst (λ (x : Float). HasValue x (ltb 0 m) m 64)
      (sym (sub_values binary64 _ _ false false 0 m 64 (lit< tt) nought plus)) (taken m h)

  pub pixels_exact : (negative : Bool) → HasValue (pixels negative m) (negative && ltb 0 m) m 64
  unfolding pixels
  pixels_exact false = plus
  pixels_exact true = minus

pub pixels_fits : (negative : Bool) (m : ℕ) → T (fits binary64 (pixels negative m))
unfolding pixels
pixels_fits negative m = cond-fits binary64 negative _ _ (sub-fits binary64 _ _) (div-fits binary64 _ _)
