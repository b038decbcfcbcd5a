-- The rounded number, in whole numbers, keeps the order: a larger fraction rounds to a number that is no smaller. Where
-- both drop as many digits it is the nearest number's own law, and otherwise a power of two lies between the two
-- results. Provides: `grid_zero`, `grid_mono`. Assumes nothing.
use mathlib.Core.Path.{◌≡◌, sym, ap, ◌∙◌, subst}
use mathlib.Core.Logic.{inl, inr}
use Prim.Native.Nat.{ℕ, ◌+◌, ◌-◌, ◌*◌, ◌/◌, ◌^◌, ◌≤◌, ◌<◌, zero-le}
use native.Mathlib.Nat.{
  le_trans,
  le_of_eq,
  le_of_lt,
  lt_of_lt_of_le,
  lt_of_le_of_lt,
  eq-or-lt_of_le,
  zero-mul,
  mul-le-mul_right,
  mul-pos,
  div-lt_iff_lt-mul,
}
use native.Mathlib.Omega.{arith}
use lib.Pow.{pow-add, pow_pos, pow_mono}
use lib.Ieee.{size}
use lib.Ieee.Digits.{size-lt, size-le}
use lib.Ieee.Nearest.{closest, closest_mono, div_mono}
use lib.Ieee.Order.{drop}
use Rattle.exact.proofs.Closest.{closest_exact, closest_ge}
use Rattle.exact.proofs.Ulp.{rounded, drop_digits, grid_under}

pub grid_zero : (p c : ℕ) → 0 < c → rounded p 0 c ≡ 0
grid_zero p c C =
    let k = drop p 0 c in
    let u = c * 2 ^ k in
    ap (λ (z : ℕ). closest z u * 2 ^ k) (sym (zero-mul u))
    ∙ ap (λ (z : ℕ). z * 2 ^ k) (closest_exact 0 u (mul-pos C (pow_pos k))) ∙ zero-mul (2 ^ k)

module _ (p a b c d : ℕ) (P : 0 < p) (B : 0 < b) (D : 0 < d) (h : a * d ≤ c * b) where
  same_drop : (k : ℕ) → closest a (b * 2 ^ k) * 2 ^ k ≤ closest c (d * 2 ^ k) * 2 ^ k
  same_drop k = mul-le-mul_right (2 ^ k)
      (closest_mono a (b * 2 ^ k) c (d * 2 ^ k) (mul-pos B (pow_pos k)) (mul-pos D (pow_pos k)) (go (2 ^ k)))
    where
      go : (t : ℕ) → a * (d * t) ≤ c * (b * t)
      go t = let k : a * d * t ≤ c * b * t = mul-le-mul_right t h in omega arith

  fewer : drop p a b ≤ drop p c d
  fewer = go (size (a / b)) (size (c / d))
      (size-le (a / b) (size (c / d)) (lt_of_le_of_lt (div_mono a b c d B D h) (size-lt (c / d))))
    where
      go : (x y : ℕ) → x ≤ y → x - p ≤ y - p
      go x y l = omega arith

  -- up to all the digits that a keeps, and from the first digit that c keeps
  top_below : rounded p a b ≤ 2 ^ (p + drop p a b)
  top_below = grid_under p a b P B (p + drop p a b)
      (le_of_lt (lt_of_lt_of_le ((div-lt_iff_lt-mul B).0 (size-lt (a / b)))
      (mul-le-mul_right b (pow_mono (go (size (a / b)))))))
    where
      go : (z : ℕ) → z ≤ p + (z - p)
      go z = omega arith

  first_above : 0 < drop p c d → 2 ^ (p - 1 + drop p c d) ≤ rounded p c d
  first_above l =
      let k = drop p c d in
      le_trans (le_of_eq (pow-add 2 (p - 1) k))
      (mul-le-mul_right (2 ^ k)
      (closest_ge c (d * 2 ^ k) (2 ^ (p - 1)) (mul-pos D (pow_pos k))
      (le_trans (le_of_eq (swap (2 ^ k) (2 ^ (p - 1)))) (drop_digits p c d P D l))))
    where
      swap : (x y : ℕ) → y * (d * x) ≡ x * y * d
      swap x y = omega arith

  pub grid_mono : rounded p a b ≤ rounded p c d
  grid_mono =
      elim (eq-or-lt_of_le fewer) [
        | inl e ↦ subst (λ (k : ℕ). closest a (b * 2 ^ k) * 2 ^ k ≤ rounded p c d) (sym e) (same_drop (drop p c d))
        | inr l ↦ le_trans top_below
            (le_trans (pow_mono (room (drop p a b) (drop p c d) l)) (first_above (lt_of_le_of_lt zero-le l)))
      ]
    where
      room : (j k : ℕ) → j < k → p + j ≤ p - 1 + k
      room j k l = omega arith
