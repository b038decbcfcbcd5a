-- A number m * 2 ^ k of units, m of at most 53 digits, scaled to 105 or 106 digits: by the place of m's leading digit
-- its root's exponent is known, and what is left is a whole number whose nearest root has 53 digits. All by adding
-- exponents. Assumes nothing.
use Rattle.std.proofs.Common.{◌≡◌, ℕ, zero, suc, ◌+◌, ◌-◌, ◌*◌, ◌/◌, ◌%◌, ◌^◌, ◌<◌, ◌≤◌, sym, ap, ◌∙◌, subst, le_trans, le_of_eq, le_of_suc-le-suc, lt_of_le_of_lt, mul-le-mul_right, mul_assoc, mul_comm, mul-le-mul_left, lt_of_not-le, mul-div_cancel, arith, pow_pos, pow-add, shl_lt}
use lib.Ieee.{size}
use Rattle.exact.proofs.Naturals.{pow_lt_back, size_is, four_pow}
use Rattle.number.specs.Root.{nearest_root}
use Rattle.number.proofs.RootWhole.{Nearest, nearest_is}

-- ---- exponents
exponents : (j k : ℕ) → j ≤ 52 → 52 - j + (k + j) % 2 + 52 + ((k + j) / 2 + (k + j) / 2) ≡ k + 104
exponents j k h = omega arith

join : (j : ℕ) → j ≤ 52 → j + (52 - j) ≡ 52
join j h = omega arith

join_suc : (j : ℕ) → j ≤ 52 → suc j + (52 - j) ≡ 53
join_suc j h = omega arith

swap : (j k : ℕ) → suc j + k ≡ suc (k + j)
swap j k = omega arith

-- a number of 53 digits, or twice one
odd_or_even : (x b : ℕ) → b < 2 → 2 ^ 52 ≤ x → x < 2 ^ 53 → (2 ^ 52 ≤ x * 2 ^ b) × (x * 2 ^ b + 2 ≤ 2 ^ 54)
odd_or_even x zero b h k = (omega arith, omega arith)
odd_or_even x (suc zero) b h k = (omega arith, omega arith)
odd_or_even x (suc (suc c)) b h k = absurd (no c b)
  where
    no : (c : ℕ) → suc (suc c) < 2 → ⊥
    no c h = omega arith

parity : (n : ℕ) → n % 2 < 2
parity n = omega arith

-- ---- j is the place of m's leading digit
module _ (m k j : ℕ) (lo : 2 ^ j ≤ m) (hi : m < 2 ^ suc j) (short : m < 2 ^ 53) where
  pub place_le : j ≤ 52
  place_le = le_of_suc-le-suc (pow_lt_back j 53 (lt_of_le_of_lt lo short))

  pub lead : size (m * 2 ^ k) ≡ suc (k + j)
  lead =
      size_is (m * 2 ^ k) (k + j)
      (le_trans (le_of_eq (pow-add 2 k j ∙ mul_comm (2 ^ k) (2 ^ j))) (mul-le-mul_right (2 ^ k) lo))
      (subst (λ (z : ℕ). m * 2 ^ k < 2 ^ z) (swap j k) (shl_lt (suc j) k hi))

  pub lead_lt : m * 2 ^ k < 2 ^ 2098 → k + j < 2098
  lead_lt h = pow_lt_back (k + j) 2098
      (lt_of_le_of_lt (le_trans (le_of_eq (pow-add 2 k j ∙ mul_comm (2 ^ k) (2 ^ j))) (mul-le-mul_right (2 ^ k) lo)) h)

  -- m moved up by its leading zeros, and once more where the leading place of m * 2 ^ k is odd
  abbrev pub moved : ℕ
  moved = m * 2 ^ (52 - j + (k + j) % 2)

  pub scaled : moved * 2 ^ 52 * 4 ^ ((k + j) / 2) ≡ m * 2 ^ k * 2 ^ 104
  scaled =
      let h = (k + j) / 2 in
      let shift = 52 - j + (k + j) % 2 in
      ap (λ (z : ℕ). moved * 2 ^ 52 * z) (four_pow h)
      ∙ ap (λ (z : ℕ). z * 2 ^ (h + h)) (mul_assoc m (2 ^ shift) (2 ^ 52)
      ∙ ap (λ (z : ℕ). m * z) (sym (pow-add 2 shift 52)))
      ∙ mul_assoc m (2 ^ (shift + 52)) (2 ^ (h + h))
      ∙ ap (λ (z : ℕ). m * z) (sym (pow-add 2 (shift + 52) (h + h)) ∙ ap (λ (z : ℕ). 2 ^ z) (exponents j k place_le)
      ∙ pow-add 2 k 104)
      ∙ sym (mul_assoc m (2 ^ k) (2 ^ 104))

  pub scaled_is : m * 2 ^ k * 2 ^ 104 / 4 ^ ((k + j) / 2) ≡ moved * 2 ^ 52
  scaled_is =
      let h = (k + j) / 2 in
      ap (λ (z : ℕ). z / 4 ^ h) (sym scaled)
      ∙ mul-div_cancel (moved * 2 ^ 52) (subst (λ (z : ℕ). 0 < z) (sym (four_pow h)) (pow_pos (h + h)))

  pub moved_sized : (2 ^ 52 ≤ moved) × (moved + 2 ≤ 2 ^ 54)
  moved_sized =
      subst (λ (z : ℕ). (2 ^ 52 ≤ z) × (z + 2 ≤ 2 ^ 54))
      (sym (ap (λ (z : ℕ). m * z) (pow-add 2 (52 - j) ((k + j) % 2))
      ∙ sym (mul_assoc m (2 ^ (52 - j)) (2 ^ ((k + j) % 2)))))
      (odd_or_even (m * 2 ^ (52 - j)) ((k + j) % 2) (parity (k + j))
      (le_trans (le_of_eq (ap (λ (z : ℕ). 2 ^ z) (sym (join j place_le)) ∙ pow-add 2 j (52 - j)))
      (mul-le-mul_right (2 ^ (52 - j)) lo))
      (subst (λ (z : ℕ). m * 2 ^ (52 - j) < 2 ^ z) (join_suc j place_le) (shl_lt (suc j) (52 - j) hi)))

-- ---- a number of 53 or 54 digits, 52 places up
pub raised_pos : (n : ℕ) → 2 ^ 52 ≤ n → 0 < n * 2 ^ 52
raised_pos n h = omega arith

pub raised_ge : (n : ℕ) → 2 ^ 52 ≤ n → 2 ^ 104 ≤ n * 2 ^ 52
raised_ge n h = omega arith

pub raised_lt : (n : ℕ) → n < 2 ^ 54 → n * 2 ^ 52 < 2 ^ 106
raised_lt n h = omega arith

-- ---- the nearest root of such a number has 53 digits
root_lt : (a q : ℕ) → a + 2 ^ 53 ≤ 2 ^ 106 → Nearest a q → q < 2 ^ 53
root_lt a q h w = lt_of_not-le (λ (g : 2 ^ 53 ≤ q). clash a q (q * q) g (mul-le-mul_right q g) h w.0)
  where
    clash : (a q s : ℕ) → 2 ^ 53 ≤ q → 2 ^ 53 * q ≤ s → a + 2 ^ 53 ≤ 2 ^ 106 → s < a + q → ⊥
    clash a q s g l h w = omega arith

root_ge : (a q : ℕ) → 2 ^ 104 ≤ a → Nearest a q → 2 ^ 52 ≤ q
root_ge a q h w = le_of_suc-le-suc
    (lt_of_not-le (λ (g : suc q ≤ 2 ^ 52). clash a q (q * q) g (mul-le-mul_left q g) h w.1))
  where
    clash : (a q s : ℕ) → suc q ≤ 2 ^ 52 → q * suc q ≤ q * 2 ^ 52 → 2 ^ 104 ≤ a → a ≤ q * q + q → ⊥
    clash a q s g l h w = omega arith

module _ (n : ℕ) (lo : 2 ^ 52 ≤ n) (hi : n + 2 ≤ 2 ^ 54) where
  pub root_near : Nearest (n * 2 ^ 52) (nearest_root (n * 2 ^ 52))
  root_near = nearest_is (n * 2 ^ 52) (raised_pos n lo) (raised_lt n (omega arith))

  pub root_under : nearest_root (n * 2 ^ 52) < 2 ^ 53
  root_under = root_lt (n * 2 ^ 52) (nearest_root (n * 2 ^ 52)) (room n hi) root_near
    where
      room : (n : ℕ) → n + 2 ≤ 2 ^ 54 → n * 2 ^ 52 + 2 ^ 53 ≤ 2 ^ 106
      room n h = omega arith

  pub root_over : 2 ^ 52 ≤ nearest_root (n * 2 ^ 52)
  root_over = root_ge (n * 2 ^ 52) (nearest_root (n * 2 ^ 52)) (raised_ge n lo) root_near
