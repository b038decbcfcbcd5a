-- Half an ulp, in whole numbers. `round` takes n / c to the nearest multiple of 2 ^ drop, and the nearest whole number
-- is at most a half away; drop is 0, or else n / c has p + drop digits, which bounds the half by the size of n / c.
-- With g = kept * 2 ^ drop, the rounded number. Provides: `drop_below`, `drop_digits`, `drop_is` (how many digits are
-- dropped); `grid_half` (|g - n / c| is half of 2 ^ drop at most), `grid_under` (powers of two bound g as they bound n
-- / c), `grid_sharp` (half an ulp below a power of two), `grid_relative`, `grid_normal` (2 ^ -p of n / c, and half a
-- unit more below the normal range). Assumes nothing.
use mathlib.Core.Path.{◌≡◌, sym, ap, ◌∙◌}
use mathlib.Core.Logic.{inl, inr}
use Prim.Native.Nat.{ℕ, zero, suc, ◌+◌, ◌-◌, ◌*◌, ◌/◌, ◌^◌, ◌≤◌, ◌<◌}
use native.Mathlib.Nat.{
  le_refl,
  le_trans,
  le_of_eq,
  lt_of_le_of_lt,
  eq-or-lt_of_le,
  mul-le-mul_right,
  mul-lt-mul_of_pos_right,
  mul-pos,
  zero-lt-suc,
  div-lt_iff_lt-mul,
  le-div_iff_mul-le,
}
use native.Mathlib.Omega.{arith}
use lib.Pow.{pow-add, pow_pos, pow_mono, pow-lt}
use lib.Ieee.{size}
use lib.Ieee.Digits.{size-le, size_reaches}
use lib.Ieee.Nearest.{closest}
use lib.Ieee.Order.{drop, kept}
use Rattle.exact.proofs.Closest.{Half, closest_half, closest_exact, closest_le}
use Rattle.exact.proofs.Naturals.{size_gt}

-- ---- the rounded number, in units
abbrev pub rounded : ℕ → ℕ → ℕ → ℕ
rounded p n c = kept p n c * 2 ^ drop p n c

-- ---- how many digits are dropped
module _ (p n c : ℕ) (P : 0 < p) (C : 0 < c) where
  pub drop_below : (K : ℕ) → n < 2 ^ K * c → drop p n c ≤ K - p
  drop_below K h = go (size (n / c)) (size-le (n / c) K ((div-lt_iff_lt-mul C).1 h))
    where
      go : (z : ℕ) → z ≤ K → z - p ≤ K - p
      go z l = omega arith

  drop_room : (K : ℕ) → n ≤ 2 ^ K * c → drop p n c ≤ K
  drop_room K h =
      le_trans (drop_below (suc K) (lt_of_le_of_lt h (mul-lt-mul_of_pos_right (pow-lt (le_refl (suc K))) C))) (go K)
    where
      go : (K : ℕ) → suc K - p ≤ K
      go K = omega arith

  pub drop_digits : 0 < drop p n c → 2 ^ drop p n c * 2 ^ (p - 1) * c ≤ n
  drop_digits h =
      (le-div_iff_mul-le C).0
      (le_trans (le_of_eq (sym (pow-add 2 (drop p n c) (p - 1))))
      (size_reaches (n / c) (drop p n c + (p - 1)) (go (size (n / c)) h)))
    where
      go : (z : ℕ) → 0 < z - p → z - p + (p - 1) < z
      go z h = omega arith

  -- n / c has p + j digits
  pub drop_is : (j : ℕ) → 2 ^ (p - 1 + j) * c ≤ n → n < 2 ^ (p + j) * c → drop p n c ≡ j
  drop_is j lo hi = go (size (n / c)) (size-le (n / c) (p + j) ((div-lt_iff_lt-mul C).1 hi))
      (size_gt (n / c) (p - 1 + j) ((le-div_iff_mul-le C).1 lo))
    where
      go : (z : ℕ) → z ≤ p + j → p - 1 + j < z → z - p ≡ j
      go z a b = omega arith

  -- ---- g = kept * 2 ^ drop against n / c
  -- |g c - n| is half of c e at most
  pub grid_half : (rounded p n c * c * 2 ≤ n * 2 + c * 2 ^ drop p n c)
      × (n * 2 ≤ rounded p n c * c * 2 + c * 2 ^ drop p n c)
  grid_half = go (kept p n c) (2 ^ drop p n c) (closest_half n (c * 2 ^ drop p n c) (mul-pos C (pow_pos (drop p n c))))
    where
      go : (q t : ℕ) → Half (c * t) n q → (q * t * c * 2 ≤ n * 2 + c * t) × (n * 2 ≤ q * t * c * 2 + c * t)
      go q t h = let a = h.0 in let b = h.1 in (omega arith, omega arith)

  -- ---- at a power of two, K digits up
  module _ (K : ℕ) (h : n ≤ 2 ^ K * c) where
    same_power : 2 ^ (K - drop p n c) * 2 ^ drop p n c ≡ 2 ^ K
    same_power = go (drop p n c) (drop_room K h)
      where
        back : (k : ℕ) → k ≤ K → K - k + k ≡ K
        back k h = omega arith

        go : (k : ℕ) → k ≤ K → 2 ^ (K - k) * 2 ^ k ≡ 2 ^ K
        go k h = sym (pow-add 2 (K - k) k) ∙ ap (λ (z : ℕ). 2 ^ z) (back k h)

    as_ulps : 2 ^ K * c ≡ 2 ^ (K - drop p n c) * (c * 2 ^ drop p n c)
    as_ulps = ap (λ (z : ℕ). z * c) (sym same_power) ∙ swap (2 ^ (K - drop p n c)) (2 ^ drop p n c) c
      where
        swap : (x y c : ℕ) → x * y * c ≡ x * (c * y)
        swap x y c = omega arith

    ulp_pos : 0 < c * 2 ^ drop p n c
    ulp_pos = mul-pos C (pow_pos (drop p n c))

    pub grid_under : rounded p n c ≤ 2 ^ K
    grid_under =
        let k = drop p n c in
        le_trans (mul-le-mul_right (2 ^ k)
        (closest_le n (c * 2 ^ k) (2 ^ (K - k)) ulp_pos (le_trans h (le_of_eq as_ulps)))) (le_of_eq same_power)

    grid_power : n ≡ 2 ^ K * c → rounded p n c ≡ 2 ^ K
    grid_power e =
        let k = drop p n c in
        let u = c * 2 ^ k in
        ap (λ (z : ℕ). closest z u * 2 ^ k) (e ∙ as_ulps)
        ∙ ap (λ (z : ℕ). z * 2 ^ k) (closest_exact (2 ^ (K - k)) u ulp_pos) ∙ same_power

    pub grid_sharp : (rounded p n c * c * 2 ≤ n * 2 + c * 2 ^ (K - p))
        × (n * 2 ≤ rounded p n c * c * 2 + c * 2 ^ (K - p))
    grid_sharp =
        elim (eq-or-lt_of_le h) [
          | inl e ↦ none (rounded p n c) (2 ^ (K - p)) (ap (λ (z : ℕ). z * c) (grid_power e) ∙ sym e)
          | inr l ↦ few (rounded p n c) (2 ^ drop p n c) (2 ^ (K - p)) (pow_mono (drop_below K l)) grid_half
        ]
      where
        none : (g t : ℕ) → g * c ≡ n → (g * c * 2 ≤ n * 2 + c * t) × (n * 2 ≤ g * c * 2 + c * t)
        none g t e = (omega arith, omega arith)

        few : (g d t : ℕ) → d ≤ t → (g * c * 2 ≤ n * 2 + c * d) × (n * 2 ≤ g * c * 2 + c * d)
            → (g * c * 2 ≤ n * 2 + c * t) × (n * 2 ≤ g * c * 2 + c * t)
        few g d t l h = let m : d * c ≤ t * c = mul-le-mul_right c l in let a = h.0 in let b = h.1 in
            (omega arith, omega arith)

  -- ---- relative: |g c - n| 2 ^ p ≤ n + 2 ^ (p - 1) c, and in the normal range without the last summand
  relative : (M g d t : ℕ) → c * d * t ≤ M → (g * c * 2 ≤ n * 2 + c * d) × (n * 2 ≤ g * c * 2 + c * d)
      → (g * c * (t * 2) ≤ n * (t * 2) + M) × (n * (t * 2) ≤ g * c * (t * 2) + M)
  relative M g d t l h =
      let a : g * c * 2 * t ≤ (n * 2 + c * d) * t = mul-le-mul_right t h.0 in
      let b : n * 2 * t ≤ (g * c * 2 + c * d) * t = mul-le-mul_right t h.1 in
      (omega arith, omega arith)

  pub grid_normal : 2 ^ (p - 1) * c ≤ n
      → (rounded p n c * c * (2 ^ (p - 1) * 2) ≤ n * (2 ^ (p - 1) * 2) + n)
      × (n * (2 ^ (p - 1) * 2) ≤ rounded p n c * c * (2 ^ (p - 1) * 2) + n)
  grid_normal N = relative n (rounded p n c) (2 ^ drop p n c) (2 ^ (p - 1)) (go (drop p n c) drop_digits) grid_half
    where
      swap : (c d t : ℕ) → c * d * t ≡ d * t * c
      swap c d t = omega arith

      one : (t : ℕ) → c * 1 * t ≡ t * c
      one t = omega arith

      go : (k : ℕ) → (0 < k → 2 ^ k * 2 ^ (p - 1) * c ≤ n) → c * 2 ^ k * 2 ^ (p - 1) ≤ n
      go zero f = le_trans (le_of_eq (one (2 ^ (p - 1)))) N
      go (suc k) f = le_trans (le_of_eq (swap c (2 ^ suc k) (2 ^ (p - 1)))) (f (zero-lt-suc k))

  pub grid_relative : (rounded p n c * c * (2 ^ (p - 1) * 2) ≤ n * (2 ^ (p - 1) * 2) + (n + 2 ^ (p - 1) * c))
      × (n * (2 ^ (p - 1) * 2) ≤ rounded p n c * c * (2 ^ (p - 1) * 2) + (n + 2 ^ (p - 1) * c))
  grid_relative = relative (n + 2 ^ (p - 1) * c) (rounded p n c) (2 ^ drop p n c) (2 ^ (p - 1))
      (go (drop p n c) drop_digits) grid_half
    where
      some : (d t : ℕ) → d * t * c ≤ n → c * d * t ≤ n + t * c
      some d t h = omega arith

      none : (t : ℕ) → c * 1 * t ≤ n + t * c
      none t = omega arith

      go : (k : ℕ) → (0 < k → 2 ^ k * 2 ^ (p - 1) * c ≤ n) → c * 2 ^ k * 2 ^ (p - 1) ≤ n + 2 ^ (p - 1) * c
      go zero f = none (2 ^ (p - 1))
      go (suc k) f = some (2 ^ suc k) (2 ^ (p - 1)) (f (zero-lt-suc k))
