-- The pattern of a rounded fraction: for the k digits that `round` drops and the number q that it keeps, it is k * hid
-- + q, up to the infinity's. So it depends on the fraction's value alone, and the sign is one bit on top of it.
-- Provides: `rank` (that number), `rank_same` (equal fractions), `rank_small`, `rank_normal` (two ways to know it);
-- `round_pattern`, `round_infinity`; `round_bits`, `round_bits_le`, `round_sign` (what is written for the result).
-- Assumes nothing.
use mathlib.Core.Path.{◌≡◌, sym, ap, ◌∙◌, subst}
use mathlib.Core.Logic.{◌⊎◌, inl, inr}
use Prim.Native.Nat.{ℕ, ◌+◌, ◌-◌, ◌*◌, ◌/◌, ◌%◌, ◌^◌, ◌≤◌, ◌<◌, compare}
use native.Mathlib.Nat.{
  le_trans,
  le_of_eq,
  le_of_lt,
  eq-zero-or-pos,
  zero-add,
  zero-mul,
  mul-one,
  mul_assoc,
  mul_right_comm,
  mul-pos,
  mul-le-mul_right,
  mul-lt-mul_of_pos_right,
  lt_of_lt_of_le,
  div-lt_iff_lt-mul,
  div-div-eq-div-mul,
  le-div_iff_mul-le,
}
use native.Mathlib.Omega.{arith}
use mathlib.Core.Bool.{Bool, false, cond}
use lib.Pow.{pow-add, pow_pos}
use lib.Ieee.{Float, inf, Format, prec, low, size, round, top, of_bits, to_bits}
use lib.Ieee.Digits.{size-le, size_reaches}
use lib.Ieee.Fits.{nearest-le, kept-lt, round_is}
use lib.Ieee.Nearest.{closest, closest_same, div_same, nearest-ge}
use lib.Ieee.Order.{drop, kept}
use Rattle.exact.proofs.FloatPatterns.{infinity_bits}
use Rattle.exact.proofs.Formats.{infinite, prec_pos}
use Rattle.exact.proofs.Naturals.{lt_or_le}
use Rattle.exact.proofs.Patterns.{pattern_infinity, pattern_back}
use Rattle.exact.proofs.Ulp.{drop_is}
use Rattle.exact.proofs.UnitPatterns.{units_infinity, units_pattern}

-- ---- what is kept has at most p digits, or is carried to the least number of one digit more; where digits are
-- dropped, it has p at least
kept_le : (p n den : ℕ) → kept p n den ≤ 2 ^ p
kept_le p n den =
    let u = den * 2 ^ drop p n den in
    le_trans (nearest-le (n / u) (compare (n % u * 2) u))
    (subst (λ (x : ℕ). x < 2 ^ p) (div-div-eq-div-mul n den (2 ^ drop p n den)) (kept-lt p (n / den)))

kept_full : (p n den : ℕ) → 0 < p → (drop p n den ≡ 0) ⊎ (2 ^ (p - 1) ≤ kept p n den)
kept_full p n den P = elim (eq-zero-or-pos (drop p n den)) [
  | inl z ↦ inl z
  | inr g ↦
      let k = drop p n den in
      let u = den * 2 ^ k in
      let w = n / den in
      let a : 2 ^ (p - 1) * 2 ^ k ≤ w =
      le_trans (le_of_eq (sym (pow-add 2 (p - 1) k))) (size_reaches w (p - 1 + k) (all_in_use (size w) p P g)) in
      inr (le_trans (subst (λ (x : ℕ). 2 ^ (p - 1) ≤ x) (div-div-eq-div-mul n den (2 ^ k))
      ((le-div_iff_mul-le (pow_pos k)).1 a)) (nearest-ge (n / u) (compare (n % u * 2) u)))
]
  where
    all_in_use : (z p : ℕ) → 0 < p → 0 < z - p → p - 1 + (z - p) < z
    all_in_use z p P h = omega arith

-- ---- the pattern of n / den units, for a format of p digits
abbrev pub rank : ℕ → ℕ → ℕ → ℕ
rank p n den = drop p n den * 2 ^ (p - 1) + kept p n den

-- equal fractions
pub rank_same : (p a b c d : ℕ) → 0 < b → 0 < d → a * d ≡ c * b → rank p a b ≡ rank p c d
rank_same p a b c d B D e =
    let k : drop p a b ≡ drop p c d = ap (λ (z : ℕ). size z - p) (div_same a b c d B D e) in
    let j = drop p c d in
    let y : a * (d * 2 ^ j) ≡ c * (b * 2 ^ j) = sym (mul_assoc a d (2 ^ j)) ∙ ap (λ (z : ℕ). z * 2 ^ j) e
    ∙ mul_assoc c b (2 ^ j) in
    ap (λ (z : ℕ). z * 2 ^ (p - 1) + closest a (b * 2 ^ z)) k
    ∙ ap (λ (z : ℕ). j * 2 ^ (p - 1) + z)
    (closest_same a (b * 2 ^ j) c (d * 2 ^ j) (mul-pos B (pow_pos j)) (mul-pos D (pow_pos j)) y)

-- ---- the laws, for the fraction a / c
module _ (f : Format) (s : Bool) (a c : ℕ) where
  pub round_pattern : rank (prec f) (a * 2 ^ low f) c ≤ infinite f
      → round f s a c ≡ of_bits f (cond s (top f) 0 + rank (prec f) (a * 2 ^ low f) c)
  round_pattern h =
      round_is f s a c
      ∙ units_pattern f s (kept (prec f) (a * 2 ^ low f) c) (drop (prec f) (a * 2 ^ low f) c)
      (kept_le (prec f) (a * 2 ^ low f) c) (kept_full (prec f) (a * 2 ^ low f) c (prec_pos f)) h

  pub round_infinity : infinite f ≤ rank (prec f) (a * 2 ^ low f) c → round f s a c ≡ inf s
  round_infinity h =
      round_is f s a c
      ∙ units_infinity f s (kept (prec f) (a * 2 ^ low f) c) (drop (prec f) (a * 2 ^ low f) c)
      (kept_le (prec f) (a * 2 ^ low f) c) (kept_full (prec f) (a * 2 ^ low f) c (prec_pos f)) h

module _ (f : Format) (a c : ℕ) where
  pub round_bits : rank (prec f) (a * 2 ^ low f) c ≤ infinite f
      → to_bits f (round f false a c) ≡ rank (prec f) (a * 2 ^ low f) c
  round_bits h =
      ap (to_bits f) (round_pattern f false a c h) ∙ pattern_back f false (rank (prec f) (a * 2 ^ low f) c) h
      ∙ zero-add (rank (prec f) (a * 2 ^ low f) c)

  pub round_sign : (s : Bool) → round f s a c ≡ of_bits f (cond s (top f) 0 + to_bits f (round f false a c))
  round_sign s = elim (lt_or_le (rank (prec f) (a * 2 ^ low f) c) (infinite f)) [
    | inl l ↦ round_pattern f s a c (le_of_lt l)
        ∙ ap (λ (p : ℕ). of_bits f (cond s (top f) 0 + p)) (sym (round_bits (le_of_lt l)))
    | inr g ↦
        round_infinity f s a c g
        ∙ sym (ap (λ (v : Float). of_bits f (cond s (top f) 0 + to_bits f v)) (round_infinity f false a c g)
        ∙ ap (λ (p : ℕ). of_bits f (cond s (top f) 0 + p)) (infinity_bits f false ∙ zero-add (infinite f))
        ∙ pattern_infinity f s)
  ]

  pub round_bits_le : to_bits f (round f false a c) ≤ infinite f
  round_bits_le = elim (lt_or_le (rank (prec f) (a * 2 ^ low f) c) (infinite f)) [
    | inl l ↦ le_trans (le_of_eq (round_bits (le_of_lt l))) (le_of_lt l)
    | inr g ↦ le_of_eq (ap (to_bits f) (round_infinity f false a c g) ∙ infinity_bits f false ∙ zero-add (infinite f))
  ]

-- ---- two ways to know the pattern of n / den units
-- no digit is dropped
none_over : (z p : ℕ) → z ≤ p → z - p ≡ 0
none_over z p h = omega arith

pub rank_small : (p n den : ℕ) → 0 < den → n < 2 ^ p * den → rank p n den ≡ closest n den
rank_small p n den D h =
    ap (λ (k : ℕ). k * 2 ^ (p - 1) + closest n (den * 2 ^ k))
    (none_over (size (n / den)) p (size-le (n / den) p ((div-lt_iff_lt-mul D).1 h)))
    ∙ ap (λ (x : ℕ). x + closest n (den * 1)) (zero-mul (2 ^ (p - 1)))
    ∙ zero-add (closest n (den * 1))
    ∙ ap (λ (u : ℕ). closest n u) (mul-one den)

-- q has i digits more than the format keeps: q * 2 ^ j / 2 ^ i has j digits to drop
pub rank_normal : (p q i j : ℕ) → 0 < p → 2 ^ (p - 1 + i) ≤ q → q < 2 ^ (p + i)
    → rank p (q * 2 ^ j) (2 ^ i) ≡ j * 2 ^ (p - 1) + closest q (2 ^ i)
rank_normal p q i j P lo hi =
    let n = q * 2 ^ j in
    let u = 2 ^ i in
    let k : drop p n u ≡ j =
    drop_is p n u P (pow_pos i) j (le_trans (le_of_eq (swap (p - 1))) (mul-le-mul_right (2 ^ j) lo))
    (lt_of_lt_of_le (mul-lt-mul_of_pos_right hi (pow_pos j)) (le_of_eq (sym (swap p)))) in
    ap (λ (z : ℕ). z * 2 ^ (p - 1) + closest n (u * 2 ^ z)) k
    ∙ ap (λ (z : ℕ). j * 2 ^ (p - 1) + z)
    (closest_same n (u * 2 ^ j) q u (mul-pos (pow_pos i) (pow_pos j)) (pow_pos i) (mul_right_comm q (2 ^ j) u
    ∙ mul_assoc q u (2 ^ j)))
  where
    swap : (d : ℕ) → 2 ^ (d + j) * 2 ^ i ≡ 2 ^ (d + i) * 2 ^ j
    swap d = ap (λ (x : ℕ). x * 2 ^ i) (pow-add 2 d j) ∙ mul_right_comm (2 ^ d) (2 ^ j) (2 ^ i)
        ∙ ap (λ (x : ℕ). x * 2 ^ j) (sym (pow-add 2 d i))
