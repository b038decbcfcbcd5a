-- Narrowing from pattern to pattern. An f64 with the pattern m has the value `worth m` in units of 2 ^ -1074, so the
-- narrowed one is that fraction rounded, and the pattern of a rounded fraction is known (`rank`): by the significand
-- and how many of its digits are dropped. Here from 2 ^ -126 on, where 24 digits are kept. Assumes nothing.
use Rattle.std.proofs.Common.{◌≡◌, ℕ, suc, ◌+◌, ◌-◌, ◌*◌, ◌/◌, ◌%◌, ◌^◌, ◌<◌, ◌≤◌, Bool, false, cond, sym, refl, ap, ◌∙◌, le_trans, le_of_eq, mul_assoc, mul_comm, zero-add, mul_right_comm, arith, pow_pos, pow-add}
use lib.Ieee.{Float, binary32, binary64, round, top, of_bits, to_bits}
use lib.Ieee.Nearest.{closest}
use Rattle.exact.proofs.Closest.{closest_le, closest_ge, closest_shift}
use Rattle.exact.proofs.FloatPatterns.{infinity_bits}
use Rattle.exact.proofs.Patterns.{lead, worth, pattern_value, pattern_infinity}
use Rattle.exact.proofs.RoundedPattern.{rank, rank_same, rank_normal, round_bits, round_infinity}
use Rattle.number.specs.Narrow.{narrow}
use Rattle.number.proofs.NarrowLaws.{narrow_value, narrow_infinity}

-- ---- from pattern to pattern
pub narrow_pattern : (s : Bool) (m : ℕ) → m < 0x7ff0000000000000
    → narrow (of_bits binary64 (cond s (top binary64) 0 + m)) ≡ round binary32 s (worth binary64 m) (2 ^ 1074)
narrow_pattern s m h = narrow_value (of_bits binary64 (cond s (top binary64) 0 + m)) s (worth binary64 m) (2 ^ 1074)
    (pow_pos 1074) (pattern_value binary64 s m h)

abbrev pub short : ℕ → ℕ
short m = to_bits binary32 (narrow (of_bits binary64 m))

pub short_round : (m : ℕ) → m < 0x7ff0000000000000
    → short m ≡ to_bits binary32 (round binary32 false (worth binary64 m) (2 ^ 1074))
short_round m h = ap (λ (p : ℕ). to_bits binary32 (narrow (of_bits binary64 p))) (sym (zero-add m))
    ∙ ap (to_bits binary32) (narrow_pattern false m h)

pub short_infinity : short 0x7ff0000000000000 ≡ 0x7f800000
short_infinity = ap (λ (v : Float). to_bits binary32 (narrow v)) (pattern_infinity binary64 false)
    ∙ ap (to_bits binary32) (narrow_infinity false) ∙ infinity_bits binary32 false

-- ---- with the significand q the value is q * 2 ^ x for the field x + 1
abbrev pub significand : ℕ → ℕ
significand m = 0x10000000000000 + m % 0x10000000000000

pub lead_field : (h x t y : ℕ) → y ≡ suc x → lead h y t ≡ (h + t) * 2 ^ x
lead_field h x t y e = ap (λ (z : ℕ). lead h z t) e

-- from 2 ^ -126 on: q * 2 ^ j / 2 ^ 29 units, with 24 digits kept of q
scale_up : (q a b c d x : ℕ) → a * b * c ≡ d → q * (a * x) * b * c ≡ q * x * d
scale_up q a b c d x e =
    mul_assoc (q * (a * x)) b c ∙ mul_assoc q (a * x) (b * c)
    ∙ ap (λ (z : ℕ). q * z) (mul_right_comm a x (b * c) ∙ ap (λ (z : ℕ). z * x) (sym (mul_assoc a b c) ∙ e)
    ∙ mul_comm d x) ∙ sym (mul_assoc q x d)

module _ (m j : ℕ) (field : m / 0x10000000000000 ≡ 897 + j) where
  normal_worth : worth binary64 m ≡ significand m * (2 ^ 896 * 2 ^ j)
  normal_worth = lead_field 0x10000000000000 (896 + j) (m % 0x10000000000000) (m / 0x10000000000000) (omega arith)
      ∙ ap (λ (x : ℕ). significand m * x) (pow-add 2 896 j)

  normal_rank : rank 24 (worth binary64 m * 2 ^ 149) (2 ^ 1074) ≡ j * 0x800000 + closest (significand m) 0x20000000
  normal_rank =
      let q = significand m in
      rank_same 24 (worth binary64 m * 2 ^ 149) (2 ^ 1074) (q * 2 ^ j) (2 ^ 29) (pow_pos 1074) (pow_pos 29)
      (ap (λ (w : ℕ). w * 2 ^ 149 * 2 ^ 29) normal_worth
      ∙ scale_up q (2 ^ 896) (2 ^ 149) (2 ^ 29) (2 ^ 1074) (2 ^ j) refl)
      ∙ rank_normal 24 q 29 j (omega arith) (omega arith) (omega arith)

  -- what is kept has 24 digits, or is 2 ^ 24
  kept_least : 0x800000 ≤ closest (significand m) 0x20000000
  kept_least = closest_ge (significand m) 0x20000000 0x800000 (omega arith) (omega arith)

  kept_most : closest (significand m) 0x20000000 ≤ 0x1000000
  kept_most = closest_le (significand m) 0x20000000 0x1000000 (omega arith) (omega arith)

  -- 29 digits off the whole pattern are 29 digits off the significand
  whole_closest : closest m 0x20000000 ≡ (896 + j) * 0x800000 + closest (significand m) 0x20000000
  whole_closest =
      let q = significand m in
      let e : m ≡ (896 + j) * 0x800000 * 0x20000000 + q = omega arith in
      ap (λ (x : ℕ). closest x 0x20000000) e
      ∙ closest_shift ((896 + j) * 0x800000) q 0x20000000 (omega arith) (omega arith)

  pub normal_short : m < 0x47f0000000000000 → short m ≡ closest m 0x20000000 - 0x1c0000000
  normal_short h =
      let c = closest (significand m) 0x20000000 in
      short_round m (omega arith)
      ∙ round_bits binary32 (worth binary64 m) (2 ^ 1074)
      (le_trans (le_of_eq normal_rank) (in_range j c (omega arith) kept_most))
      ∙ normal_rank
      ∙ sym (ap (λ (x : ℕ). x - 0x1c0000000) whole_closest ∙ unbiased j c)
    where
      in_range : (j c : ℕ) → j < 254 → c ≤ 0x1000000 → j * 0x800000 + c ≤ 0x7f800000
      in_range j c h k = omega arith

      unbiased : (j c : ℕ) → (896 + j) * 0x800000 + c - 0x1c0000000 ≡ j * 0x800000 + c
      unbiased j c = omega arith

  pub past_short : 0x47f0000000000000 ≤ m → m < 0x7ff0000000000000 → short m ≡ 0x7f800000
  past_short h k =
      let c = closest (significand m) 0x20000000 in
      short_round m k
      ∙ ap (to_bits binary32) (round_infinity binary32 false (worth binary64 m) (2 ^ 1074)
      (le_trans (too_far j c (omega arith) kept_least) (le_of_eq (sym normal_rank))))
      ∙ infinity_bits binary32 false
    where
      too_far : (j c : ℕ) → 254 ≤ j → 0x800000 ≤ c → 0x7f800000 ≤ j * 0x800000 + c
      too_far j c h k = omega arith
