-- Narrowing in the code's terms: the pattern for each range of m, that it is one of an f32, and the sign's bit on top
-- of both patterns. Assumes nothing.
use Rattle.std.proofs.Common.{◌≡◌, ℕ, ◌+◌, ◌-◌, ◌*◌, ◌/◌, ◌%◌, ◌^◌, ◌<◌, ◌≤◌, Bool, true, false, cond, not, T, sym, ap, ◌∙◌, subst, inl, inr, le_trans, le_of_eq, eq-or-lt_of_le, arith}
use lib.Ieee.{Float, binary32, binary64, top, fits, is_nan, nan_bits, of_bits, to_bits}
use lib.Ieee.Bits.{of_bits-to_bits, to_bits-lt}
use lib.Ieee.Nearest.{closest}
use Rattle.exact.proofs.Closest.{closest_ge}
use Rattle.exact.proofs.FloatPatterns.{number_bits}
use Rattle.exact.proofs.Formats.{below_top}
use Rattle.exact.proofs.Naturals.{lt_or_le}
use Rattle.exact.proofs.Patterns.{worth, pattern_infinity, pattern_rest, pattern_number}
use Rattle.exact.proofs.RoundedPattern.{round_bits_le, round_sign}
use Rattle.number.specs.Narrow.{narrow}
use Rattle.number.proofs.NarrowLaws.{narrow_infinity}
use Rattle.number.proofs.NarrowNormal.{
  short,
  significand,
  narrow_pattern,
  short_round,
  short_infinity,
  normal_short,
  past_short,
}
use Rattle.number.proofs.NarrowLow.{low_short}

-- ---- the three ranges, in the code's terms
field_of : (m : ℕ) → 0x3810000000000000 ≤ m → m / 0x10000000000000 ≡ 897 + (m / 0x10000000000000 - 897)
field_of m h = omega arith

pub ordinary_bits : (m : ℕ) → 0x3810000000000000 ≤ m → m < 0x47f0000000000000
    → short m ≡ closest m 0x20000000 - 0x1c0000000
ordinary_bits m a b = normal_short m (m / 0x10000000000000 - 897) (field_of m a) b

pub ordinary_least : (m : ℕ) → 0x3810000000000000 ≤ m → 0x1c0000000 ≤ closest m 0x20000000
ordinary_least m a = closest_ge m 0x20000000 0x1c0000000 (omega arith) (omega arith)

pub over_bits : (m : ℕ) → 0x47f0000000000000 ≤ m → m ≤ 0x7ff0000000000000 → short m ≡ 0x7f800000
over_bits m a b = elim (eq-or-lt_of_le b) [
  | inl e ↦ ap (λ (x : ℕ). short x) e ∙ short_infinity
  | inr l ↦ past_short m (m / 0x10000000000000 - 897) (field_of m (omega arith)) a l
]

pub subnormal_bits : (m : ℕ) → m < 0x3810000000000000 → 873 ≤ m / 0x10000000000000
    → short m ≡ closest (significand m) (2 ^ (926 - m / 0x10000000000000))
subnormal_bits m a b = low_short m (m / 0x10000000000000 - 1) (926 - m / 0x10000000000000) (omega arith) (omega arith)
    (omega arith) (omega arith)

pub bits_le : (m : ℕ) → m ≤ 0x7ff0000000000000 → short m ≤ 0x7f800000
bits_le m h = elim (eq-or-lt_of_le h) [
  | inl e ↦ le_of_eq (ap (λ (x : ℕ). short x) e ∙ short_infinity)
  | inr l ↦ le_trans (le_of_eq (short_round m l)) (round_bits_le binary32 (worth binary64 m) (2 ^ 1074))
]

-- the sign is a bit on top of both patterns
pub signed_bits : (s : Bool) (m : ℕ) → m ≤ 0x7ff0000000000000
    → narrow (of_bits binary64 (cond s (top binary64) 0 + m)) ≡ of_bits binary32 (cond s (top binary32) 0 + short m)
signed_bits s m h = elim (eq-or-lt_of_le h) [
  | inl e ↦
      ap (λ (x : ℕ). narrow (of_bits binary64 (cond s (top binary64) 0 + x))) e
      ∙ ap narrow (pattern_infinity binary64 s)
      ∙ narrow_infinity s
      ∙ sym (ap (λ (x : ℕ). of_bits binary32 (cond s (top binary32) 0 + x)) (ap (λ (x : ℕ). short x) e ∙ short_infinity)
      ∙ pattern_infinity binary32 s)
  | inr l ↦
      narrow_pattern s m l
      ∙ round_sign binary32 (worth binary64 m) (2 ^ 1074) s
      ∙ ap (λ (x : ℕ). of_bits binary32 (cond s (top binary32) 0 + x)) (sym (short_round m l))
]

-- ---- an f64 that is a number, by its bits
split : (b : ℕ) → b < 2 * 0x8000000000000000
    → (s : Bool) × (b ≡ cond s 0x8000000000000000 0 + b % 0x8000000000000000)
    × (b / 0x8000000000000000 * 0x80000000 ≡ cond s 0x80000000 0)
split b h = elim (lt_or_le b 0x8000000000000000)
    [ inl l ↦ (false, omega arith, omega arith) | inr g ↦ (true, omega arith, omega arith) ]

module _ (x : Float) (number : T (not (is_nan x))) (held : T (fits binary64 x)) where
  bits_split : (s : Bool) × (to_bits binary64 x ≡ cond s 0x8000000000000000 0 + to_bits binary64 x % 0x8000000000000000)
      × (to_bits binary64 x / 0x8000000000000000 * 0x80000000 ≡ cond s 0x80000000 0)
  bits_split = split (to_bits binary64 x) (to_bits-lt binary64 x held)

  pub bits_number : to_bits binary64 x % 0x8000000000000000 ≤ 0x7ff0000000000000
  bits_number = number_bits binary64 x held number

  pub narrow_bits : of_bits binary32
      (to_bits binary64 x / 0x8000000000000000 * 0x80000000 + short (to_bits binary64 x % 0x8000000000000000)) ≡ narrow x
  narrow_bits =
      let b = to_bits binary64 x in
      let z = bits_split in
      ap (λ (y : ℕ). of_bits binary32 (y + short (b % 0x8000000000000000))) z.2
      ∙ sym (signed_bits z.0 (b % 0x8000000000000000) bits_number)
      ∙ ap (λ (y : ℕ). narrow (of_bits binary64 y)) (sym z.1)
      ∙ ap narrow (of_bits-to_bits binary64 x held)

  pub narrow_no_nan : T (not
      (nan_bits binary32 (to_bits binary64 x / 0x8000000000000000 * 0x80000000 + short
      (to_bits binary64 x % 0x8000000000000000))))
  narrow_no_nan =
      let b = to_bits binary64 x in
      let z = bits_split in
      subst (λ (y : ℕ). T (not (nan_bits binary32 (y + short (b % 0x8000000000000000))))) (sym z.2)
      (short_number z.0 (short (b % 0x8000000000000000)) (bits_le (b % 0x8000000000000000) bits_number))
    where
      short_number : (s : Bool) (p : ℕ) → p ≤ 0x7f800000 → T (not (nan_bits binary32 (cond s 0x80000000 0 + p)))
      short_number s p h = pattern_number binary32 (cond s 0x80000000 0 + p)
          (le_trans (le_of_eq (pattern_rest binary32 s p (below_top binary32 p h))) h)
