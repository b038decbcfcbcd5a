-- The square root digit by digit. With j turns left, a is the square of the root so far and the remainder, and then j
-- pairs of digits to come: a turn brings down a pair d, and 4 * (s * s + r) + d is the square of 2 * s + 1 or of 2 * s
-- and the new remainder. Assumes nothing.
use Rattle.std.proofs.Common.{◌≡◌, ℕ, suc, ◌+◌, ◌-◌, ◌*◌, ◌/◌, ◌%◌, ◌^◌, ◌<◌, ◌≤◌, sym, ap, ◌∙◌, subst, le_trans, le_of_eq, mul-le-mul_left, mul-one, arith, pow_pos}
use native.Mathlib.Nat.{pow-succ'}

-- rest holds the digits to come at the upper end of 64
pub record Digits (a s r rest j : ℕ) : Type 0 where
  pub value : a * 2 ^ 64 ≡ ((s * s + r) * 2 ^ 64 + rest) * 4 ^ j
  pub remainder : r ≤ 2 * s
  pub short : rest < 2 ^ 64
  pub size : (s + 1) * 2 ^ j ≤ 2 ^ 53
  pub turns : j ≤ 53

pub start : (n : ℕ) → n < 2 ^ 54 → Digits (n * 2 ^ 52) 0 0 (n * 1024) 53
start n h = record {
  value = omega arith;
  remainder = omega arith;
  short = omega arith;
  size = omega arith;
  turns = omega arith;
}

-- ---- a turn
-- a multiple of a power, of which one factor is taken
quarter : (x w r p : ℕ) → (x * w + r) * (4 * p) ≡ (4 * x * w + 4 * r) * p
quarter x w r p = omega arith

gather : (x w d e p : ℕ) → (4 * x * w + (d * w + e)) * p ≡ ((4 * x + d) * w + e) * p
gather x w d e p = omega arith

pair : (rest : ℕ) → rest < 2 ^ 64 → 4 * rest ≡ rest / 4611686018427387904 * 2 ^ 64 + rest % 4611686018427387904 * 4
pair rest h = omega arith

bring : (a x rest y j : ℕ) → rest < 2 ^ 64 → a * 2 ^ 64 ≡ (x * 2 ^ 64 + rest) * 4 ^ suc j
    → y ≡ 4 * x + rest / 4611686018427387904
    → a * 2 ^ 64 ≡ (y * 2 ^ 64 + rest % 4611686018427387904 * 4) * 4 ^ j
bring a x rest y j h e f =
    let d = rest / 4611686018427387904 in
    let l = rest % 4611686018427387904 * 4 in
    e
    ∙ ap (λ (z : ℕ). (x * 2 ^ 64 + rest) * z) (pow-succ' 4 j)
    ∙ quarter x (2 ^ 64) rest (4 ^ j)
    ∙ ap (λ (z : ℕ). (4 * x * 2 ^ 64 + z) * 4 ^ j) (pair rest h)
    ∙ gather x (2 ^ 64) d l (4 ^ j)
    ∙ ap (λ (z : ℕ). (z * 2 ^ 64 + l) * 4 ^ j) (sym f)

half : (s j : ℕ) → (s + 1) * 2 ^ suc j ≤ 2 ^ 53 → (2 * s + 2) * 2 ^ j ≤ 2 ^ 53
half s j h = le_trans (le_of_eq (grow s (2 ^ j) ∙ ap (λ (z : ℕ). (s + 1) * z) (sym (pow-succ' 2 j)))) h
  where
    grow : (s p : ℕ) → (2 * s + 2) * p ≡ (s + 1) * (2 * p)
    grow s p = omega arith

less : (s p b : ℕ) → (2 * s + 2) * p ≤ b → (2 * s + 1) * p ≤ b
less s p b h = omega arith

-- the remainder with the next pair brought down, and the digits after that pair
abbrev pub brought : ℕ → ℕ → ℕ
brought r rest = 4 * r + rest / 4611686018427387904

abbrev pub after : ℕ → ℕ
after rest = rest % 4611686018427387904 * 4

digit_one : (a s r rest j : ℕ) → Digits a s r rest (suc j) → 4 * s < brought r rest
    → Digits a (2 * s + 1) (brought r rest - (4 * s + 1)) (after rest) j
digit_one a s r rest j D h = record {
  value = bring a (s * s + r) rest ((2 * s + 1) * (2 * s + 1) + (brought r rest - (4 * s + 1))) j D.short D.value
      (omega arith);
  remainder = omega (arith, D.remainder, D.short);
  short = omega arith;
  size = le_trans (le_of_eq (ap (λ (z : ℕ). z * 2 ^ j) (two s))) (half s j D.size);
  turns = omega (arith, D.turns);
}
  where
    two : (s : ℕ) → 2 * s + 1 + 1 ≡ 2 * s + 2
    two s = omega arith

digit_zero : (a s r rest j : ℕ) → Digits a s r rest (suc j) → brought r rest ≤ 4 * s
    → Digits a (2 * s) (brought r rest) (after rest) j
digit_zero a s r rest j D h = record {
  value = bring a (s * s + r) rest (2 * s * (2 * s) + brought r rest) j D.short D.value (omega arith);
  remainder = omega arith;
  short = omega arith;
  size = less s (2 ^ j) (2 ^ 53) (half s j D.size);
  turns = omega (arith, D.turns);
}

suc_pred : (j : ℕ) → 0 < j → j ≡ suc (j - 1)
suc_pred j h = omega arith

pub turn_one : (a s r rest j : ℕ) → Digits a s r rest j → 0 < j → 4 * s < brought r rest
    → Digits a (2 * s + 1) (brought r rest - (4 * s + 1)) (after rest) (j - 1)
turn_one a s r rest j D p h = digit_one a s r rest (j - 1) (subst (λ (k : ℕ). Digits a s r rest k) (suc_pred j p) D) h

pub turn_zero : (a s r rest j : ℕ) → Digits a s r rest j → 0 < j → brought r rest ≤ 4 * s
    → Digits a (2 * s) (brought r rest) (after rest) (j - 1)
turn_zero a s r rest j D p h = digit_zero a s r rest (j - 1) (subst (λ (k : ℕ). Digits a s r rest k) (suc_pred j p) D) h

-- ---- what every turn knows of the sizes, and the end
pub root_lt : (a s r rest j : ℕ) → Digits a s r rest j → s < 2 ^ 53
root_lt a s r rest j D =
    go s (2 ^ j) (le_trans (le_trans (le_of_eq (sym (mul-one (s + 1)))) (mul-le-mul_left (s + 1) (pow_pos j)))
    D.size)
  where
    go : (s p : ℕ) → s + 1 ≤ 2 ^ 53 → s < 2 ^ 53
    go s p h = omega arith

pub done : (a s r rest j : ℕ) → Digits a s r rest j → j ≤ 0 → a ≡ s * s + r
done a s r rest j D l = go a (s * s + r) rest (D.value
    ∙ ap (λ (k : ℕ). ((s * s + r) * 2 ^ 64 + rest) * 4 ^ k) (none j l)) D.short
  where
    go : (a x e : ℕ) → a * 2 ^ 64 ≡ (x * 2 ^ 64 + e) * 1 → e < 2 ^ 64 → a ≡ x
    go a x e h k = omega arith

    none : (j : ℕ) → j ≤ 0 → j ≡ 0
    none j h = omega arith
