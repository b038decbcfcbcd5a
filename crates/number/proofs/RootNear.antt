-- Why no f64 is nearer: with p = 2 ^ g, the root is q * p units. An f64 below it is at most (q - 1) * p units, or q is
-- 2 ^ 52 and a is at least its square; one above is at least (q + 1) * p (Neighbours in `exact`). The squares of 2 * q
-- - 1 and 2 * q + 1 lie on either side of 4 * a. Assumes nothing.
use Rattle.std.proofs.Common.{◌≡◌, ℕ, zero, suc, ◌+◌, ◌-◌, ◌*◌, ◌<◌, ◌≤◌, subst, zero-le, le_trans, le_of_eq, lt_of_lt_of_le, lt_of_le_of_lt, le_of_lt, lt_irrefl, mul-le-mul_right, mul-le-mul, mul-lt-mul_of_pos_right, mul-pos, arith}
use native.Mathlib.Nat.{mul-lt-mul_of_pos_left}
use Rattle.number.proofs.RootWhole.{Nearest}

-- ---- the squares
squares : (s t p : ℕ) → s ≤ t * p → s * s ≤ t * t * (p * p)
squares s t p h = le_trans (mul-le-mul h h) (le_of_eq (pair t p))
  where
    pair : (t p : ℕ) → t * p * (t * p) ≡ t * t * (p * p)
    pair t p = omega arith

squares_above : (s t p : ℕ) → t * p ≤ s → t * t * (p * p) ≤ s * s
squares_above s t p h = le_trans (le_of_eq (pair t p)) (mul-le-mul h h)
  where
    pair : (t p : ℕ) → t * t * (p * p) ≡ t * p * (t * p)
    pair t p = omega arith

module _ (a q c p : ℕ) (near : Nearest a q) (P : 0 < p) where
  pub under_next : 0 < q → c ≤ (q - 1) * p → (c + q * p) * (c + q * p) < 4 * a * (p * p)
  under_next b l = lt_of_le_of_lt (squares (c + q * p) (q - 1 + q) p (sum c q p l))
      (mul-lt-mul_of_pos_right (less q a b near.0) (mul-pos P P))
    where
      sum : (c q p : ℕ) → c ≤ (q - 1) * p → c + q * p ≤ (q - 1 + q) * p
      sum c q p h = omega arith

      less : (q a : ℕ) → 0 < q → q * q < a + q → (q - 1 + q) * (q - 1 + q) < 4 * a
      less zero a b h = absurd (lt_irrefl 0 b)
      less (suc r) a b h = subst (λ (z : ℕ). (z + suc r) * (z + suc r) < 4 * a) (pred r) (go r a h)
        where
          pred : (r : ℕ) → r ≡ suc r - 1
          pred r = omega arith

          go : (r a : ℕ) → suc r * suc r < a + suc r → (r + suc r) * (r + suc r) < 4 * a
          go r a h = omega arith

  -- where q is least, the square of q itself is at most a
  pub under_least : q * q ≤ a → c < q * p → (c + q * p) * (c + q * p) < 4 * a * (p * p)
  under_least b l = lt_of_lt_of_le (strict (c + q * p) (q * p) (both c (q * p) l))
      (le_trans (le_of_eq (four q p)) (mul-le-mul_right (p * p) (times q a b)))
    where
      both : (c r : ℕ) → c < r → c + r < 2 * r
      both c r h = omega arith

      strict : (s r : ℕ) → s < 2 * r → s * s < 2 * r * (2 * r)
      strict s r h = lt_of_le_of_lt (mul-le-mul_right s (le_of_lt h))
          (mul-lt-mul_of_pos_left h (lt_of_le_of_lt zero-le h))

      four : (q p : ℕ) → 2 * (q * p) * (2 * (q * p)) ≡ 4 * (q * q) * (p * p)
      four q p = omega arith

      times : (q a : ℕ) → q * q ≤ a → 4 * (q * q) ≤ 4 * a
      times q a h = omega arith

  pub over_next : (q + 1) * p ≤ c → 4 * a * (p * p) < (c + q * p) * (c + q * p)
  over_next l = lt_of_lt_of_le (mul-lt-mul_of_pos_right (more q a near.1) (mul-pos P P))
      (squares_above (c + q * p) (q + 1 + q) p (sum c q p l))
    where
      sum : (c q p : ℕ) → (q + 1) * p ≤ c → (q + 1 + q) * p ≤ c + q * p
      sum c q p h = omega arith

      more : (q a : ℕ) → a ≤ q * q + q → 4 * a < (q + 1 + q) * (q + 1 + q)
      more q a h = omega arith
