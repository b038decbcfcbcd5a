-- The exact pieces' sizes for the two kernels: with a fraction from 0 to 1 written p / (p + k), each claim is a
-- comparison of two sums of products of p and k with no sign left, which omega multiplies out. Provides: `unit_split`,
-- `catrom_nonneg`, `spline_nonneg` (the inner piece is not negative), `catrom_small`, `spline_small` (the outer one is
-- at most 3). Assumes nothing.
use mathlib.Core.Path.{◌≡◌, refl, ap, subst}
use mathlib.Core.List.{[], ◌∷◌}
use Prim.Native.Nat.{ℕ, ◌+◌, ◌-◌, ◌*◌, ◌≤◌, ◌<◌}
use native.Mathlib.Nat.{mul-pos}
use native.Mathlib.Omega.{arith}
use Rattle.exact.specs.Fraction.{Fraction, over, frac, ratio, ◌≤F◌, ◌≈◌, neg_f, ◌+F◌, ◌-F◌, ◌*F◌, abs_f, Unit01}
use Rattle.exact.proofs.Scale.{At, at_le, le_at, at_eq, at_more, at_add, at_sub, at_mul, common}
use Rattle.exact.proofs.Near.{le_trans, add_same}
use Rattle.exact.proofs.Products.{eq_refl, back, at_zero, at_one, at_count, mul_same, le_same}
use Rattle.exact.proofs.NearProducts.{at_abs_le}
use Rattle.exact.proofs.Magnitude.{at_same, abs_alike}
use Rattle.cubic.specs.Mitchell.{
  without_linear_f,
  with_linear_f,
  near3,
  near2,
  near0,
  near_f,
  far3,
  far2,
  far1,
  far0,
  far_f,
}

-- ---- p / (p + k)
abbrev Split : Fraction → Type 0
Split x = (p : ℕ) × (k : ℕ) × (0 < p + k) × At (p + k) x p 0

pub unit_split : (x : Fraction) → Unit01 x → Split x
unit_split x u =
    common (x ∷ [])
    (λ D D0 ((p, n, X), _). let a = le_at D D0 (at_zero D) X u.0 in let b = le_at D D0 X (at_one D) u.1 in
    go D D0 p n (omega arith) (omega arith) X)
  where
    go : (D : ℕ) → 0 < D → (p n : ℕ) → n ≤ p → p ≤ n + D → At D x p n → Split x
    go D D0 p n h k X = (
      p - n,
      D - (p - n),
      subst (λ (z : ℕ). 0 < z) (whole D (p - n) small) D0,
      subst (λ (z : ℕ). At z x (p - n) 0) (whole D (p - n) small) here,
    )
      where
        small : p - n ≤ D
        small = omega arith

        whole : (D j : ℕ) → j ≤ D → D ≡ j + (D - j)
        whole D j h = omega arith

        flat : (a b o D p n j : ℕ) → p ≡ n + j → a * D + n * o ≡ p * o + b * D → a * D + 0 * o ≡ j * o + b * D
        flat a b o D p n j e h = let g : p * o ≡ (n + j) * o = ap (λ (z : ℕ). z * o) e in omega arith

        here : At D x (p - n) 0
        here = record { at = flat x.plus x.minus (over x) D p n (p - n) (omega arith) X.at }

-- a whole number, or one below 0, times x, at the scale of x
at_scaled : {D : ℕ} (n m : ℕ) {x : Fraction} {p q : ℕ} → At D x p q
    → At D (ratio n m 1 *F x) (n * p + m * q) (n * q + m * p)
at_scaled {D} n m {x} {p} {q} X =
    subst (λ (z : ℕ). At z (ratio n m 1 *F x) (n * p + m * q) (n * q + m * p)) (once D) (at_mul whole X)
  where
    once : (D : ℕ) → 1 * D ≡ D
    once D = omega arith

    whole : At 1 (ratio n m 1) n m
    whole = record { at = refl }

-- ---- the coefficients are whole numbers, four of them below 0
record Wholes (B C : Fraction) (a b d a' b' c' d' : ℕ) : Type 0 where
  near_3 : frac a 1 ≈ near3 B C
  near_2 : ratio 0 b 1 ≈ near2 B C
  near_0 : frac d 1 ≈ near0 B
  far_3 : ratio 0 a' 1 ≈ far3 B C
  far_2 : frac b' 1 ≈ far2 B C
  far_1 : ratio 0 c' 1 ≈ far1 B C
  far_0 : frac d' 1 ≈ far0 B C

catrom : Wholes (frac 0 1) (frac 1 2) 9 15 6 3 15 24 12
unfolding neg_f ◌+F◌ ◌-F◌ ◌*F◌
catrom = record {
  near_3 = record { eq = refl };
  near_2 = record { eq = refl };
  near_0 = record { eq = refl };
  far_3 = record { eq = refl };
  far_2 = record { eq = refl };
  far_1 = record { eq = refl };
  far_0 = record { eq = refl };
}

spline : Wholes (frac 1 1) (frac 0 1) 3 6 4 1 6 12 8
unfolding neg_f ◌+F◌ ◌-F◌ ◌*F◌
spline = record {
  near_3 = record { eq = refl };
  near_2 = record { eq = refl };
  near_0 = record { eq = refl };
  far_3 = record { eq = refl };
  far_2 = record { eq = refl };
  far_1 = record { eq = refl };
  far_0 = record { eq = refl };
}

two_like : {a a' b b' : Fraction} → a ≈ a' → b ≈ b' → (x : Fraction) → a *F (x *F x *F x)
    +F b *F (x *F x) ≈ a' *F (x *F x *F x) +F b' *F (x *F x)
two_like {a} {a'} {b} {b'} h k x = add_same (a *F (x *F x *F x)) (a' *F (x *F x *F x)) (b *F (x *F x)) (b' *F (x *F x))
    (mul_same h (eq_refl (x *F x *F x))) (mul_same k (eq_refl (x *F x)))

module _ {B C : Fraction} {a b d a' b' c' d' : ℕ} (K : Wholes B C a b d a' b' c' d') (x : Fraction) where
  near_is : without_linear_f (frac a 1) (ratio 0 b 1) (frac d 1) x ≈ near_f B C x
  near_is =
      add_same (frac a 1 *F (x *F x *F x) +F ratio 0 b 1 *F (x *F x)) (near3 B C *F (x *F x *F x)
      +F near2 B C *F (x *F x)) (frac d 1) (near0 B)
      (two_like K.near_3 K.near_2 x) K.near_0

  far_is : with_linear_f (ratio 0 a' 1) (frac b' 1) (ratio 0 c' 1) (frac d' 1) x ≈ far_f B C x
  far_is =
      add_same (ratio 0 a' 1 *F (x *F x *F x) +F frac b' 1 *F (x *F x) +F ratio 0 c' 1 *F x) (far3 B C *F (x *F x *F x)
      +F far2 B C *F (x *F x) +F far1 B C *F x) (frac d' 1) (far0 B C)
      (add_same (ratio 0 a' 1 *F (x *F x *F x) +F frac b' 1 *F (x *F x)) (far3 B C *F (x *F x *F x)
      +F far2 B C *F (x *F x)) (ratio 0 c' 1 *F x) (far1 B C *F x)
      (two_like K.far_3 K.far_2 x) (mul_same K.far_1 (eq_refl x))) K.far_0

-- ---- below 1
nonneg : (a b d : ℕ) → ((p k : ℕ) → b * (p * p * (p + k)) ≤ a * (p * p * p) + d * ((p + k) * (p + k) * (p + k)))
    → (x : Fraction) → Unit01 x → frac 0 1 ≤F without_linear_f (frac a 1) (ratio 0 b 1) (frac d 1) x
nonneg a b d h x u = go (unit_split x u)
  where
    go : Split x → frac 0 1 ≤F without_linear_f (frac a 1) (ratio 0 b 1) (frac d 1) x
    go (p, k, D0, X) =
        let D : ℕ = p + k in
        let z = h p k in
        at_le (D * D * D) (mul-pos (mul-pos D0 D0) D0) (at_zero (D * D * D))
        (at_add (at_add (at_scaled a 0 (at_mul (at_mul X X) X)) (at_scaled 0 b (at_more (D * D) D (at_mul X X))))
        (at_count (D * D * D) d)) (omega arith)

-- 9 x^3 - 15 x^2 + 6
pub catrom_nonneg : (x : Fraction) → Unit01 x → frac 0 1 ≤F near_f (frac 0 1) (frac 1 2) x
catrom_nonneg x u = le_same (eq_refl (frac 0 1)) (near_is catrom x) (nonneg 9 15 6 (λ p k. omega arith) x u)

-- 3 x^3 - 6 x^2 + 4
pub spline_nonneg : (x : Fraction) → Unit01 x → frac 0 1 ≤F near_f (frac 1 1) (frac 0 1) x
spline_nonneg x u = le_same (eq_refl (frac 0 1)) (near_is spline x) (nonneg 3 6 4 (λ p k. omega arith) x u)

-- ---- from 1 to 2: -a x^3 + b x^2 - c x + d, with x = 1 + p / (p + k)
module _ (x : Fraction) (l : frac 1 1 ≤F x) (h : x ≤F frac 2 1) where
  rest : Unit01 (x -F frac 1 1)
  rest =
      common (x ∷ [])
      (λ D D0 ((_, _, X), _).
      let a = le_at D D0 (at_one D) X l in
      let b = le_at D D0 X (at_count D 2) h in
      let z = at_sub X (at_one D) in
      (at_le D D0 (at_zero D) z (omega arith), at_le D D0 z (at_one D) (omega arith)))

  again : x -F frac 1 1 +F frac 1 1 ≈ x
  again = common (x ∷ []) (λ D D0 ((_, _, X), _). at_eq D D0 (at_add (at_sub X (at_one D)) (at_one D)) X (omega arith))

  -- the two signs' sums at the scale (p + k)^3 are at most 3 apart
  small : (a b c d : ℕ)
      → ((p k : ℕ)
      → let D : ℕ = p + k in let q : ℕ = p + D in
      (b * (q * q * D) + d * (D * D * D) ≤ 3 * (D * D * D) + (a * (q * q * q) + c * (q * D * D)))
      × (a * (q * q * q) + c * (q * D * D) ≤ 3 * (D * D * D) + (b * (q * q * D) + d * (D * D * D))))
      → abs_f (with_linear_f (ratio 0 a 1) (frac b 1) (ratio 0 c 1) (frac d 1) x) ≤F frac 3 1
  small a b c d f = go (unit_split (x -F frac 1 1) rest)
    where
      go : Split (x -F frac 1 1) → abs_f (with_linear_f (ratio 0 a 1) (frac b 1) (ratio 0 c 1) (frac d 1) x) ≤F frac 3 1
      go (p, k, D0, Y) =
          let D : ℕ = p + k in
          let X : At D x (p + D) (0 + 0) = at_same again (at_add Y (at_one D)) in
          let z = f p k in
          at_abs_le (D * D * D) (mul-pos (mul-pos D0 D0) D0)
          (at_add
          (at_add (at_add (at_scaled 0 a (at_mul (at_mul X X) X)) (at_scaled b 0 (at_more (D * D) D (at_mul X X))))
          (at_scaled 0 c (at_more (D * D) D (at_more D D X))))
          (at_count (D * D * D) d))
          (at_count (D * D * D) 3) (omega arith) (omega arith)

-- -3 x^3 + 15 x^2 - 24 x + 12, which is -3 (x - 1) (2 - x)^2
pub catrom_small : (x : Fraction) → frac 1 1 ≤F x → x ≤F frac 2 1 → abs_f (far_f (frac 0 1) (frac 1 2) x) ≤F frac 3 1
catrom_small x l h =
    le_trans (abs_f (far_f (frac 0 1) (frac 1 2) x))
    (abs_f (with_linear_f (ratio 0 3 1) (frac 15 1) (ratio 0 24 1) (frac 12 1) x)) (frac 3 1)
    (abs_alike (far_f (frac 0 1) (frac 1 2) x) (with_linear_f (ratio 0 3 1) (frac 15 1) (ratio 0 24 1) (frac 12 1) x)
    (back (far_is catrom x))) (small x l h 3 15 24 12 (λ p k. (omega arith, omega arith)))

-- -x^3 + 6 x^2 - 12 x + 8, which is (2 - x)^3
pub spline_small : (x : Fraction) → frac 1 1 ≤F x → x ≤F frac 2 1 → abs_f (far_f (frac 1 1) (frac 0 1) x) ≤F frac 3 1
spline_small x l h =
    le_trans (abs_f (far_f (frac 1 1) (frac 0 1) x))
    (abs_f (with_linear_f (ratio 0 1 1) (frac 6 1) (ratio 0 12 1) (frac 8 1) x)) (frac 3 1)
    (abs_alike (far_f (frac 1 1) (frac 0 1) x) (with_linear_f (ratio 0 1 1) (frac 6 1) (ratio 0 12 1) (frac 8 1) x)
    (back (far_is spline x))) (small x l h 1 6 12 8 (λ p k. (omega arith, omega arith)))
