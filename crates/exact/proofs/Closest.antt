-- The nearest whole number to a / u, a tie to the even one. With what is left of a after its whole part, the three ways
-- of the comparison are three sums below or above u; as one quotient, for an even u: add u / 2 - 1 to a, and one more
-- where the whole part is odd, and divide. Provides: `closest_half` (at most a half away), `closest_exact`,
-- `closest_le`, `closest_ge` (beside whole numbers), `closest_none` (below a half); `closest_quotient`, `closest_shift`
-- (an even number of whole u goes through). Assumes nothing.
use mathlib.Core.Path.{◌≡◌, refl, sym, ap, ◌∙◌, subst}
use Prim.Native.Nat.{
  ℕ,
  zero,
  suc,
  ◌+◌,
  ◌-◌,
  ◌*◌,
  ◌/◌,
  ◌%◌,
  ◌≤◌,
  ◌<◌,
  compare,
  Ordering,
}
use native.Mathlib.Nat.{
  le_trans,
  le_of_eq,
  le_antisymm,
  le_of_suc-le-suc,
  mul-le-mul_right,
  lt_of_mul-lt-mul_right,
  mod-lt,
  div-add-mod',
  mul-add-div_right,
  mul-add-mod_self_right,
  div-eq_of_lt-le,
  div-eq_of_lt,
  mod-eq_of_lt,
}
use native.Mathlib.Omega.{arith}
use mathlib.Core.Bool.{not}
use lib.Dec.{T, is_le, compare_is_eq, eqb, leb→le, nleb→lt, eqb→eq, eqb_refl}
use lib.Arith.{lt_of_le-ne}
use lib.Ieee.{nearest}
use lib.Ieee.Nearest.{closest, closest_mono}

-- ---- what `compare` says
abbrev Cmp : Ordering → ℕ → ℕ → Type 0
Cmp Ordering.lt a b = a < b
Cmp Ordering.eq a b = a ≡ b
Cmp Ordering.gt a b = b < a

cmp : (a b : ℕ) → Cmp (compare a b) a b
cmp a b = go (compare a b) (leb→le a b) (nleb→lt a b) (eqb→eq a b)
    (λ (e : a ≡ b). subst (λ (x : ℕ). T (eqb a x)) e (eqb_refl a))
  where
    go : (o : Ordering) → (T (is_le o) → a ≤ b) → (T (not (is_le o)) → b < a) → (T (compare_is_eq o) → a ≡ b)
        → (a ≡ b → T (compare_is_eq o)) → Cmp o a b
    go Ordering.lt h k e n = lt_of_le-ne (h tt) n
    go Ordering.eq h k e n = e tt
    go Ordering.gt h k e n = k tt

-- ---- |q - n / u| ≤ 1 / 2
abbrev pub Half : ℕ → ℕ → ℕ → Type 0
Half u n q = (q * u * 2 ≤ n * 2 + u) × (n * 2 ≤ q * u * 2 + u)

pub closest_half : (n u : ℕ) → 0 < u → Half u n (closest n u)
closest_half n u U = go (n / u) (n % u) (compare (n % u * 2) u) (div-add-mod' n u) (mod-lt n U) (cmp (n % u * 2) u)
  where
    to_even : (q b r : ℕ) → q * u + r ≡ n → b ≤ 1 → r * 2 ≡ u → Half u n (q + b)
    to_even q b r e B h = let k : b * u ≤ 1 * u = mul-le-mul_right u B in (omega arith, omega arith)

    parity : (q : ℕ) → q % 2 ≤ 1
    parity q = omega arith

    go : (q r : ℕ) (o : Ordering) → q * u + r ≡ n → r < u → Cmp o (r * 2) u → Half u n (nearest q o)
    go q r Ordering.lt e l h = (omega arith, omega arith)
    go q r Ordering.eq e l h = to_even q (q % 2) r e (parity q) h
    go q r Ordering.gt e l h = (omega arith, omega arith)

-- a whole number is its own nearest, and so bounds those of smaller and of larger fractions
pub closest_exact : (m u : ℕ) → 0 < u → closest (m * u) u ≡ m
closest_exact m u U =
    let h = closest_half (m * u) u U in
    le_antisymm (le_of_suc-le-suc (lt_of_mul-lt-mul_right u (near (closest (m * u) u) m u U h.0)))
    (le_of_suc-le-suc (lt_of_mul-lt-mul_right u (far (closest (m * u) u) m u U h.1)))
  where
    near : (q m u : ℕ) → 0 < u → q * u * 2 ≤ m * u * 2 + u → q * u < suc m * u
    near q m u U h = omega arith

    far : (q m u : ℕ) → 0 < u → m * u * 2 ≤ q * u * 2 + u → m * u < suc q * u
    far q m u U h = omega arith

pub closest_le : (a u b : ℕ) → 0 < u → a ≤ b * u → closest a u ≤ b
closest_le a u b U h = le_trans (closest_mono a u (b * u) u U U (mul-le-mul_right u h)) (le_of_eq (closest_exact b u U))

pub closest_ge : (a u b : ℕ) → 0 < u → b * u ≤ a → b ≤ closest a u
closest_ge a u b U h = le_trans (le_of_eq (sym (closest_exact b u U)))
    (closest_mono (b * u) u a u U U (mul-le-mul_right u h))

-- ---- as one quotient: w is the whole part and r what is left; y is r + (u / 2 - 1) + w % 2, below twice u
module _ (w r u : ℕ) (even : u % 2 ≡ 0) (pos : 0 < u) where
  none_more : r + (u / 2 - 1) + w % 2 < u → w ≡ w + (r + (u / 2 - 1) + w % 2) / u
  none_more h = omega (arith, div-eq_of_lt h)

  one_more : r < u → u ≤ r + (u / 2 - 1) + w % 2 → suc w ≡ w + (r + (u / 2 - 1) + w % 2) / u
  one_more l h = omega (arith, div-eq_of_lt-le {k = 1} u {m = r + (u / 2 - 1) + w % 2} (omega arith) (omega arith))

  tie : (b : ℕ) → w % 2 ≡ b → b < 2 → r < u → r * 2 ≡ u → w + w % 2 ≡ w + (r + (u / 2 - 1) + w % 2) / u
  tie zero e b l h = omega (arith, none_more (omega arith))
  tie (suc c) e b l h = omega (arith, one_more l (omega arith))

  by_remainder : (o : Ordering) → Cmp o (r * 2) u → r < u → nearest w o ≡ w + (r + (u / 2 - 1) + w % 2) / u
  by_remainder Ordering.lt h l = none_more (omega arith)
  by_remainder Ordering.eq h l = tie (w % 2) refl (omega arith) l h
  by_remainder Ordering.gt h l = one_more l (omega arith)

regroup : (a b r h p : ℕ) → b + r ≡ a → a + h + p ≡ b + (r + h + p)
regroup a b r h p e = omega arith

pub closest_quotient : (a u : ℕ) → u % 2 ≡ 0 → 0 < u → closest a u ≡ (a + (u / 2 - 1) + a / u % 2) / u
closest_quotient a u even pos =
    by_remainder (a / u) (a % u) u even pos (compare (a % u * 2) u) (cmp (a % u * 2) u) (mod-lt a pos)
    ∙ sym (ap (λ (x : ℕ). x / u) (regroup a (a / u * u) (a % u) (u / 2 - 1) (a / u % 2) (div-add-mod' a u))
    ∙ mul-add-div_right pos (a / u) (a % u + (u / 2 - 1) + a / u % 2))

-- an even number of whole u goes through
nearest_shift : (c w : ℕ) (o : Ordering) → c % 2 ≡ 0 → nearest (c + w) o ≡ c + nearest w o
nearest_shift c w Ordering.lt e = refl
nearest_shift c w Ordering.eq e = omega arith
nearest_shift c w Ordering.gt e = omega arith

pub closest_shift : (c a u : ℕ) → c % 2 ≡ 0 → 0 < u → closest (c * u + a) u ≡ c + closest a u
closest_shift c a u even pos =
    ap (λ (x : ℕ). nearest x (compare ((c * u + a) % u * 2) u)) (mul-add-div_right pos c a)
    ∙ ap (λ (x : ℕ). nearest (c + a / u) (compare (x * 2) u)) (mul-add-mod_self_right c u a)
    ∙ nearest_shift c (a / u) (compare (a % u * 2) u) even

-- less than half of u is nothing
below_half : (o : Ordering) (a u : ℕ) → a * 2 < u → Cmp o (a * 2) u → nearest 0 o ≡ 0
below_half Ordering.lt a u h k = refl
below_half Ordering.eq a u h k = refl
below_half Ordering.gt a u h k = absurd (both a u h k)
  where
    both : (a u : ℕ) → a * 2 < u → u < a * 2 → ⊥
    both a u h k = omega arith

pub closest_none : (a u : ℕ) → a * 2 < u → closest a u ≡ 0
closest_none a u h =
    let l : a < u = omega arith in
    ap (λ (x : ℕ). nearest x (compare (a % u * 2) u)) (div-eq_of_lt l)
    ∙ ap (λ (x : ℕ). nearest 0 (compare (x * 2) u)) (mod-eq_of_lt l)
    ∙ below_half (compare (a * 2) u) a u h (cmp (a * 2) u)
