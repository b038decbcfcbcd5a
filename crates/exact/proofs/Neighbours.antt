-- Between neighbours: a number of at most p digits with zeros after them, from 2 ^ (p - 1) * 2 ^ g on, is a multiple of
-- 2 ^ g. So, in units, a format of p digits has no value strictly between q * 2 ^ g and the next multiple of 2 ^ g, for
-- a q of p digits; below it, for a q above 2 ^ (p - 1). Provides: `next_below`, `next_above`. Assumes nothing.
use mathlib.Core.Path.{◌≡◌, sym, ap, ◌∙◌, subst}
use mathlib.Core.Logic.{inl, inr}
use Prim.Native.Nat.{ℕ, ◌+◌, ◌-◌, ◌*◌, ◌^◌, ◌≤◌, ◌<◌}
use native.Mathlib.Nat.{
  le_trans,
  le_of_eq,
  le_of_lt,
  lt_of_le_of_lt,
  mul_assoc,
  mul-le-mul_right,
  lt_of_mul-lt-mul_right,
}
use native.Mathlib.Omega.{arith}
use lib.Pow.{pow-add, shl_lt}
use lib.Ieee.Digits.{back}
use Rattle.exact.proofs.Naturals.{lt_or_le, pow_lt_back}

module _ (p m k g q : ℕ) (short : m < 2 ^ p) where
  multiple : 2 ^ (p - 1) * 2 ^ g ≤ m * 2 ^ k → m * 2 ^ k ≡ m * 2 ^ (k - g) * 2 ^ g
  multiple l =
      ap (λ (z : ℕ). m * z) (ap (λ (z : ℕ). 2 ^ z)
      (sym (back k g (near (pow_lt_back (p - 1 + g) (p + k)
      (lt_of_le_of_lt (le_trans (le_of_eq (pow-add 2 (p - 1) g)) l) (shl_lt p k short)))))) ∙ pow-add 2 (k - g) g)
      ∙ sym (mul_assoc m (2 ^ (k - g)) (2 ^ g))
    where
      near : p - 1 + g < p + k → g ≤ k
      near h = omega arith

  pub next_below : 2 ^ (p - 1) < q → m * 2 ^ k < q * 2 ^ g → m * 2 ^ k ≤ (q - 1) * 2 ^ g
  next_below b l =
      elim (lt_or_le (m * 2 ^ k) (2 ^ (p - 1) * 2 ^ g)) [
        | inl w ↦ le_trans (le_of_lt w) (mul-le-mul_right (2 ^ g) (one_less (2 ^ (p - 1)) b))
        | inr w ↦
            le_trans (le_of_eq (multiple w))
            (mul-le-mul_right (2 ^ g)
            (one_less (m * 2 ^ (k - g))
            (lt_of_mul-lt-mul_right (2 ^ g) (subst (λ (z : ℕ). z < q * 2 ^ g) (multiple w) l))))
      ]
    where
      one_less : (a : ℕ) → a < q → a ≤ q - 1
      one_less a h = omega arith

  pub next_above : 2 ^ (p - 1) ≤ q → q * 2 ^ g < m * 2 ^ k → (q + 1) * 2 ^ g ≤ m * 2 ^ k
  next_above b l =
      let e = multiple (le_of_lt (lt_of_le_of_lt (mul-le-mul_right (2 ^ g) b) l)) in
      le_trans (mul-le-mul_right (2 ^ g)
      (one_more (m * 2 ^ (k - g)) (lt_of_mul-lt-mul_right (2 ^ g) (subst (λ (z : ℕ). q * 2 ^ g < z) e l))))
      (le_of_eq (sym e))
    where
      one_more : (a : ℕ) → q < a → q + 1 ≤ a
      one_more a h = omega arith
