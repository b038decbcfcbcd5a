-- Small laws of natural numbers that several files need: of two numbers one is below or the other is not, and powers of
-- two stand in the order of their exponents. Provides: `lt_or_le`; `pow_lt_back`, `pow_le_back` (the exponents of two
-- powers of 2); `size_gt`, `size_is` (the number of digits from powers that bound the number); `four_pow` (powers of
-- 4). Assumes nothing.
use mathlib.Core.Path.{◌≡◌, refl, sym, ap, ◌∙◌}
use mathlib.Core.Logic.{◌⊎◌, inl, inr}
use mathlib.Core.Bool.{Bool, true, false, not}
use Prim.Native.Nat.{ℕ, zero, suc, ◌+◌, ◌*◌, ◌^◌, ◌≤◌, ◌<◌}
use native.Mathlib.Nat.{
  le_refl,
  le_antisymm,
  le_of_suc-le-suc,
  lt_of_not-le,
  lt_of_lt_of_le,
  lt_of_le_of_lt,
  lt_irrefl,
  pow-succ',
}
use native.Mathlib.Omega.{arith}
use lib.Dec.{T, ltb, ltb→lt, nltb→le}
use lib.Pow.{pow-lt, pow_mono}
use lib.Ieee.{size}
use lib.Ieee.Digits.{size-lt, size-le}

pub lt_or_le : (a b : ℕ) → (a < b) ⊎ (b ≤ a)
lt_or_le a b = go (ltb a b) (ltb→lt a b) (nltb→le a b)
  where
    go : (t : Bool) → (T t → a < b) → (T (not t) → b ≤ a) → (a < b) ⊎ (b ≤ a)
    go true h k = inl (h tt)
    go false h k = inr (k tt)

-- ---- powers of two
pub pow_lt_back : (i j : ℕ) → 2 ^ i < 2 ^ j → i < j
pow_lt_back i j h = lt_of_not-le (λ (g : j ≤ i). lt_irrefl (2 ^ i) (lt_of_lt_of_le h (pow_mono g)))

pub pow_le_back : (i j : ℕ) → 2 ^ i ≤ 2 ^ j → i ≤ j
pow_le_back i j h = le_of_suc-le-suc (pow_lt_back i (suc j) (lt_of_le_of_lt h (pow-lt (le_refl (suc j)))))

pub size_gt : (n i : ℕ) → 2 ^ i ≤ n → i < size n
size_gt n i h = pow_lt_back i (size n) (lt_of_le_of_lt h (size-lt n))

pub size_is : (n i : ℕ) → 2 ^ i ≤ n → n < 2 ^ suc i → size n ≡ suc i
size_is n i lo hi = le_antisymm (size-le n (suc i) hi) (size_gt n i lo)

pub four_pow : (h : ℕ) → 4 ^ h ≡ 2 ^ (h + h)
four_pow zero = refl
four_pow (suc h) = pow-succ' 4 h ∙ ap (λ (z : ℕ). 4 * z) (four_pow h) ∙ twice (2 ^ (h + h))
    ∙ ap (λ (z : ℕ). 2 * z) (sym (pow-succ' 2 (h + h))) ∙ sym (pow-succ' 2 (suc (h + h)))
    ∙ ap (λ (z : ℕ). 2 ^ z) (more h)
  where
    twice : (p : ℕ) → 4 * p ≡ 2 * (2 * p)
    twice p = omega arith

    more : (h : ℕ) → suc (suc (h + h)) ≡ suc h + suc h
    more h = omega arith
