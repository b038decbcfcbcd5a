-- Narrowing below 2 ^ -126: in units of 2 ^ -149 the value is the significand over a power of two, of which no digit is
-- dropped, and below 2 ^ -150 it is less than half a unit. Assumes nothing.
use Rattle.std.proofs.Common.{◌≡◌, ℕ, zero, suc, ◌+◌, ◌*◌, ◌/◌, ◌%◌, ◌^◌, ◌<◌, ◌≤◌, sym, ap, ◌∙◌, le_trans, le_of_eq, lt_of_lt_of_le, le_of_lt, mul_assoc, mul-lt-mul_of_pos_right, arith, lit≤, pow_pos, pow_mono, pow-add, shl_lt}
use lib.Ieee.{binary32, binary64}
use lib.Ieee.Nearest.{closest}
use Rattle.exact.proofs.Closest.{closest_le, closest_none}
use Rattle.exact.proofs.Patterns.{lead, worth}
use Rattle.exact.proofs.RoundedPattern.{rank, rank_same, rank_small, round_bits}
use Rattle.number.proofs.NarrowNormal.{short, short_round, significand, lead_field}

-- below 2 ^ -126: q / 2 ^ i units, of which no digit is dropped
module _ (m x i : ℕ) (field : m / 0x10000000000000 ≡ suc x) (shift : x + i ≡ 925) (most : 30 ≤ i) where
  low_fraction : worth binary64 m * 2 ^ 149 * 2 ^ i ≡ significand m * 2 ^ 1074
  low_fraction =
      let q = significand m in
      ap (λ (w : ℕ). w * 2 ^ 149 * 2 ^ i)
      (lead_field 0x10000000000000 x (m % 0x10000000000000) (m / 0x10000000000000) field)
      ∙ ap (λ (z : ℕ). z * 2 ^ i) (mul_assoc q (2 ^ x) (2 ^ 149))
      ∙ mul_assoc q (2 ^ x * 2 ^ 149) (2 ^ i)
      ∙ ap (λ (z : ℕ). q * z) (ap (λ (z : ℕ). z * 2 ^ i) (sym (pow-add 2 x 149)) ∙ sym (pow-add 2 (x + 149) i)
      ∙ ap (λ (z : ℕ). 2 ^ z) (sum x i shift))
    where
      sum : (x i : ℕ) → x + i ≡ 925 → x + 149 + i ≡ 1074
      sum x i e = omega arith

  low_under : significand m < 2 ^ 24 * 2 ^ i
  low_under = lt_of_lt_of_le (omega arith) (le_trans (pow_mono (wide i most)) (le_of_eq (pow-add 2 24 i)))
    where
      wide : (i : ℕ) → 30 ≤ i → 53 ≤ 24 + i
      wide i h = omega arith

  low_rank : rank 24 (worth binary64 m * 2 ^ 149) (2 ^ 1074) ≡ closest (significand m) (2 ^ i)
  low_rank =
      let q = significand m in
      rank_same 24 (worth binary64 m * 2 ^ 149) (2 ^ 1074) q (2 ^ i) (pow_pos 1074) (pow_pos i) low_fraction
      ∙ rank_small 24 q (2 ^ i) (pow_pos i) low_under

  pub low_short : m < 0x7ff0000000000000 → short m ≡ closest (significand m) (2 ^ i)
  low_short h =
      let q = significand m in
      short_round m h
      ∙ round_bits binary32 (worth binary64 m) (2 ^ 1074)
      (le_trans (le_of_eq low_rank)
      (le_trans (closest_le q (2 ^ i) (2 ^ 24) (pow_pos i) (le_of_lt low_under)) (lit≤ tt)))
      ∙ low_rank

-- below 2 ^ -150: less than half a unit
tiny_lead : (y t : ℕ) → y < 873 → t < 2 ^ 52 → lead (2 ^ 52) y t < 2 ^ 924
tiny_lead zero t Y H = lt_of_lt_of_le H (lit≤ tt)
tiny_lead (suc x) t Y H = lt_of_lt_of_le (shl_lt 53 x (omega arith)) (pow_mono {i = 53 + x} {j = 924} (omega arith))

pub zero_bits : (m : ℕ) → m / 0x10000000000000 < 873 → short m ≡ 0
zero_bits m h =
    let w = worth binary64 m in
    let n = w * 2 ^ 149 in
    let d = 2 ^ 1074 in
    let less : n * 2 < d = lt_of_lt_of_le
    (mul-lt-mul_of_pos_right
    (shl_lt 924 149 (tiny_lead (m / 0x10000000000000) (m % 0x10000000000000) h (omega arith))) (omega arith))
    (lit≤ tt) in
    let r : rank 24 n d ≡ 0 = rank_small 24 n d (pow_pos 1074) (under n d less) ∙ closest_none n d less in
    short_round m (omega arith) ∙ round_bits binary32 w d (le_trans (le_of_eq r) (lit≤ tt)) ∙ r
  where
    under : (n d : ℕ) → n * 2 < d → n < 0x1000000 * d
    under n d h = omega arith
