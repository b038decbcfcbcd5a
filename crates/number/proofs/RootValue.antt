-- The root of m * 2 ^ k units, as a float: the rounding at its end loses nothing, so its value is the 53 digits q in
-- units of 2 ^ (h - 589), and it is the float of the pattern that is put together of h and q. Assumes nothing.
use Rattle.std.proofs.Common.{◌≡◌, ℕ, suc, ◌+◌, ◌-◌, ◌*◌, ◌/◌, ◌^◌, ◌<◌, ◌≤◌, false, T, sym, ap, ◌∙◌, subst, inr, lt_of_lt_of_le, le_of_lt, mul_assoc, zero-add, arith, pow_pos, pow_mono, pow-add, shl_lt}
use lib.Ieee.{Float, binary64, fits, round, of_bits}
use lib.Ieee.Bits.{of_bits-fits}
use lib.Ieee.Exact.{HasValue, round_exact}
use lib.Ieee.Fits.{round-fits}
use Rattle.exact.proofs.UnitPatterns.{units_value}
use Rattle.exact.proofs.Value.{unique, rescale}
use Rattle.number.specs.Root.{nearest_root, root_of}
use Rattle.number.proofs.RootScale.{lead, lead_lt, moved, scaled_is, moved_sized, root_under, root_over}

pred : (n : ℕ) → suc n - 1 ≡ n
pred n = omega arith

-- q * 2 ^ h units of 2 ^ -589 are q * 2 ^ (h + 485) units of 2 ^ -1074
finer : (q h : ℕ) → q * 2 ^ h * 2 ^ 1074 ≡ q * 2 ^ (h + 485) * 2 ^ 589
finer q h =
    mul_assoc q (2 ^ h) (2 ^ 1074)
    ∙ ap (λ (z : ℕ). q * z) (sym (pow-add 2 h 1074) ∙ ap (λ (z : ℕ). 2 ^ z) (sum h) ∙ pow-add 2 (h + 485) 589)
    ∙ sym (mul_assoc q (2 ^ (h + 485)) (2 ^ 589))
  where
    sum : (h : ℕ) → h + 1074 ≡ h + 485 + 589
    sum h = omega arith

exact : (q h : ℕ) → q < 2 ^ 53 → h ≤ 1048
    → HasValue (round binary64 false (q * 2 ^ h) (2 ^ 589)) false (q * 2 ^ (h + 485)) (2 ^ 1074)
exact q h lt le =
    rescale (round binary64 false (q * 2 ^ h) (2 ^ 589)) false (q * 2 ^ h) (2 ^ 589) (q * 2 ^ (h + 485)) (2 ^ 1074)
    (pow_pos 589) (finer q h)
    (round_exact binary64 false (q * 2 ^ h) (2 ^ 589) q (h + 485) (pow_pos 589) lt
    (lt_of_lt_of_le (shl_lt 53 (h + 485) lt) (pow_mono (room h le))) (finer q h))
  where
    room : (h : ℕ) → h ≤ 1048 → 53 + (h + 485) ≤ 2098
    room h l = omega arith

module _ (m k j : ℕ) (lo : 2 ^ j ≤ m) (hi : m < 2 ^ suc j) (short : m < 2 ^ 53) (low : m * 2 ^ k < 2 ^ 2098) where
  abbrev pub half : ℕ
  half = (k + j) / 2

  abbrev pub digits : ℕ
  digits = nearest_root (moved m k j lo hi short * 2 ^ 52)

  pub half_le : half ≤ 1048
  half_le = go (k + j) (lead_lt m k j lo hi short low)
    where
      go : (l : ℕ) → l < 2098 → l / 2 ≤ 1048
      go l h = omega arith

  root_of_is : root_of (m * 2 ^ k) ≡ round binary64 false (digits * 2 ^ half) (2 ^ 589)
  unfolding root_of
  root_of_is =
      ap (λ (h : ℕ). round binary64 false (nearest_root (m * 2 ^ k * 2 ^ 104 / 4 ^ h) * 2 ^ h) (2 ^ 589))
      (ap (λ (z : ℕ). (z - 1) / 2) (lead m k j lo hi short) ∙ ap (λ (z : ℕ). z / 2) (pred (k + j)))
      ∙ ap (λ (a : ℕ). round binary64 false (nearest_root a * 2 ^ half) (2 ^ 589)) (scaled_is m k j lo hi short)

  pub digits_lt : digits < 2 ^ 53
  digits_lt = let z = moved_sized m k j lo hi short in root_under (moved m k j lo hi short) z.0 z.1

  pub digits_ge : 2 ^ 52 ≤ digits
  digits_ge = let z = moved_sized m k j lo hi short in root_over (moved m k j lo hi short) z.0 z.1

  pub root_value : HasValue (root_of (m * 2 ^ k)) false (digits * 2 ^ (half + 485)) (2 ^ 1074)
  root_value = subst (λ (x : Float). HasValue x false (digits * 2 ^ (half + 485)) (2 ^ 1074)) (sym root_of_is)
      (exact digits half digits_lt half_le)

  -- the pattern
  pub pattern_is : of_bits binary64 ((half + 485) * 4503599627370496 + digits) ≡ root_of (m * 2 ^ k)
  pattern_is =
      unique binary64 binary64 (of_bits binary64 ((half + 485) * 4503599627370496 + digits)) (root_of (m * 2 ^ k)) false
      (digits * 2 ^ (half + 485)) (2 ^ 1074) (pow_pos 1074)
      (of_bits-fits binary64 ((half + 485) * 4503599627370496 + digits))
      (subst (λ (x : Float). T (fits binary64 x)) (sym root_of_is)
      (round-fits binary64 false (digits * 2 ^ half) (2 ^ 589)))
      (subst (λ (p : ℕ). HasValue (of_bits binary64 p) false (digits * 2 ^ (half + 485)) (2 ^ 1074))
      (zero-add ((half + 485) * 4503599627370496 + digits))
      (units_value binary64 false digits (half + 485) (le_of_lt digits_lt) (inr digits_ge)
      (in_range half digits half_le digits_lt)))
      root_value
    where
      in_range : (h q : ℕ) → h ≤ 1048 → q < 2 ^ 53 → (h + 485) * 4503599627370496 + q < 9218868437227405312
      in_range h q l k = omega arith
