-- A finite f64 above 0, by its bit pattern: the code's steps are those of the definition, since the count of the
-- significand's leading zeros gives the place of its leading digit. Assumes nothing.
use Rattle.std.proofs.Common.{◌≡◌, ℕ, zero, suc, ◌+◌, ◌-◌, ◌*◌, ◌/◌, ◌%◌, ◌^◌, ◌<◌, ◌≤◌, true, false, T, sym, ap, ◌∙◌, subst, lt_of_lt_of_le, lt_irrefl, mod-eq_of_lt, zero-add, arith, lit≤, ltb→lt, pow_pos}
use lib.Count.{count_leading_zeros, leading_top}
use lib.Ieee.{Float, nan, inf, fin, binary64, fits, of_bits, to_bits}
use lib.Ieee.Bits.{of_bits-to_bits}
use lib.Ieee.Exact.{HasValue}
use lib.Ieee.Positive.{positive, first_pos, value_pos}
use Rattle.exact.proofs.PatternDigits.{digits_of, place_of, pattern_units}
use Rattle.exact.proofs.Units.{Units, count}
use Rattle.number.specs.Root.{nearest_root, root_of, root}
use Rattle.number.proofs.RootScale.{place_le, lead_lt, moved, moved_sized}
use Rattle.number.proofs.RootValue.{digits_lt, pattern_is}

-- ---- the root of a finite x above 0 is that of its number of units
pub root_of_law : (x : Float) (n : ℕ) → T (positive x) → HasValue x false n (2 ^ 1074) → root x ≡ root_of n
unfolding root
root_of_law nan n p v = absurd p
root_of_law (inf s) n p v = absurd p
root_of_law (fin true m e) n p v = absurd p
root_of_law (fin false zero e) n p v = absurd (lt_irrefl 0 (ltb→lt 0 0 p))
root_of_law (fin false (suc m) e) n p v = ap root_of (count false false (suc m) e n (2 ^ 1074) v)

-- ---- the code's numbers: m and k are the significand and its place
-- the place of the leading digit, and m moved up, by the leading zeros
abbrev leads : ℕ → ℕ → ℕ
leads m k = k + (63 - count_leading_zeros 64 m)

abbrev moves : ℕ → ℕ → ℕ
moves m k = m * 2 ^ (count_leading_zeros 64 m - 11 + leads m k % 2) % 2 ^ 64

pub record Steps (x : Float) (m k : ℕ) : Type 0 where
  pub zeros_le : count_leading_zeros 64 m ≤ 63
  pub zeros_ge : 11 ≤ count_leading_zeros 64 m
  pub leads_lt : leads m k < 2098
  pub in_range : (2 ^ 52 ≤ moves m k) × (moves m k < 2 ^ 54)
  pub digits_lt : nearest_root (moves m k * 2 ^ 52) < 2 ^ 53
  pub answer : of_bits binary64 ((leads m k / 2 + 485) * 4503599627370496 + nearest_root (moves m k * 2 ^ 52)) ≡ root x

few : (z j : ℕ) → z + suc j ≡ 64 → z ≤ 63
few z j h = omega arith

enough : (z j : ℕ) → z + suc j ≡ 64 → j ≤ 52 → 11 ≤ z
enough z j h l = omega arith

below_lead : (k z j : ℕ) → z + suc j ≡ 64 → k + (63 - z) ≡ k + j
below_lead k z j h = omega arith

above_lead : (z j : ℕ) → z + suc j ≡ 64 → z - 11 ≡ 52 - j
above_lead z j h = omega arith

fits_word : (n : ℕ) → n + 2 ≤ 2 ^ 54 → (n < 2 ^ 64) × (n < 2 ^ 54)
fits_word n h = omega arith

module _ (x : Float) (m k j : ℕ) (p : T (positive x)) (u : Units binary64 x false m k)
    (z : count_leading_zeros 64 m + suc j ≡ 64) (lo : 2 ^ j ≤ m) (hi : m < 2 ^ suc j) where
  leads_is : leads m k ≡ k + j
  leads_is = below_lead k (count_leading_zeros 64 m) j z

  moves_is : moves m k ≡ moved m k j lo hi u.short
  moves_is =
      ap (λ (n : ℕ). m * 2 ^ (count_leading_zeros 64 m - 11 + n % 2) % 2 ^ 64) leads_is
      ∙ ap (λ (n : ℕ). m * 2 ^ (n + (k + j) % 2) % 2 ^ 64) (above_lead (count_leading_zeros 64 m) j z)
      ∙ mod-eq_of_lt (fits_word (moved m k j lo hi u.short) (moved_sized m k j lo hi u.short).1).0

  steps : Steps x m k
  steps = record {
    zeros_le = few (count_leading_zeros 64 m) j z;
    zeros_ge = enough (count_leading_zeros 64 m) j z (place_le m k j lo hi u.short);
    leads_lt = subst (λ (n : ℕ). n < 2098) (sym leads_is) (lead_lt m k j lo hi u.short u.under);
    in_range =
        let s = moved_sized m k j lo hi u.short in
        subst (λ (n : ℕ). (2 ^ 52 ≤ n) × (n < 2 ^ 54)) (sym moves_is)
        (s.0, (fits_word (moved m k j lo hi u.short) s.1).1);
    digits_lt = subst (λ (n : ℕ). nearest_root (n * 2 ^ 52) < 2 ^ 53) (sym moves_is)
        (digits_lt m k j lo hi u.short u.under);
    answer =
        ap (λ (n : ℕ). of_bits binary64 ((leads m k / 2 + 485) * 4503599627370496 + nearest_root (n * 2 ^ 52))) moves_is
        ∙ ap (λ (n : ℕ). of_bits binary64
        ((n / 2 + 485) * 4503599627370496 + nearest_root (moved m k j lo hi u.short * 2 ^ 52))) leads_is
        ∙ pattern_is m k j lo hi u.short u.under
        ∙ sym (root_of_law x (m * 2 ^ k) p u.value);
  }

-- of x's own pattern b
pub from_bits : (x : Float) (b m k : ℕ) → T (positive x) → T (fits binary64 x) → b ≡ to_bits binary64 x
    → b < 9218868437227405312 → m ≡ digits_of binary64 b → k ≡ place_of binary64 b → Steps x m k
from_bits x b m k p f e l M K =
    let u : Units binary64 x false m k =
    subst (λ (y : Float). Units binary64 y false m k) (ap (λ (n : ℕ). of_bits binary64 n) e ∙ of_bits-to_bits binary64 x f)
    (subst (λ (n : ℕ). Units binary64 (of_bits binary64 b) false n k) (sym M)
    (subst (λ (n : ℕ). Units binary64 (of_bits binary64 b) false (digits_of binary64 b) n) (sym K)
    (subst (λ (n : ℕ). Units binary64 (of_bits binary64 n) false (digits_of binary64 b) (place_of binary64 b))
    (zero-add b) (pattern_units binary64 false b l)))) in
    let top = leading_top 64 m (first_pos m (2 ^ k) (value_pos x (m * 2 ^ k) (2 ^ 1074) p (pow_pos 1074) u.value))
    (lt_of_lt_of_le u.short (lit≤ tt)) in
    steps x m k top.0 p u top.1 top.2 top.3
