-- Products of fractions: at one scale a product of fractions is a product of naturals, so each ring law is one omega,
-- and each law of order is one omega from the rearrangement p a + n b ≤ p b + n a (n ≤ p, a ≤ b). Provides: `eq_refl`,
-- `◌⨟◌`, `back` (equality in chains); `at_zero`, `at_one`, `at_count` (at any scale); the ring: `mul_same`, `sub_same`,
-- `mul_comm`, `mul_assoc`, `mul_one`, `one_mul`, `mul_zero`, `mul_add`, `add_mul`, `mul_sub`, `add_zero`, `add_comm`,
-- `add_assoc`; the order: `lt_or_le`, `lt_le_trans`, `le_lt_trans`, `le_same`, `rearrange`, `mul_le`, `le_mul`,
-- `mul_mono`, `nonneg_mul`, `mul_cancel_le`; from 0 to 1: `unit_zero`, `unit_one`, `unit_same`, `unit_mul`, `unit_rest`
-- (1 - t). Assumes nothing.
use mathlib.Core.Path.{◌≡◌, refl, ap, ◌∙◌, subst}
use mathlib.Core.List.{[], ◌∷◌}
use mathlib.Core.Logic.{◌⊎◌, inl, inr, ⊎_elim}
use Prim.Native.Nat.{ℕ, ◌+◌, ◌-◌, ◌*◌, ◌≤◌, ◌<◌}
use native.Mathlib.Nat.{mul-le-mul_right, mul-pos, le_of_mul-le-mul_right}
use native.Mathlib.Omega.{arith}
use Rattle.exact.specs.Fraction.{Fraction, over, frac, ◌≤F◌, ◌<F◌, ◌≈◌, ◌+F◌, ◌-F◌, ◌*F◌, Unit01}
use Rattle.exact.proofs.Scale.{
  At,
  at_le,
  le_at,
  at_lt,
  lt_at,
  at_eq,
  eq_at,
  at_more,
  at_add,
  at_sub,
  at_mul,
  common,
}
use Rattle.exact.proofs.Naturals as Naturals
use Rattle.exact.proofs.Near.{eq_sym, eq_trans, eq_le, le_trans}

-- ---- equality in chains
pub eq_refl : (x : Fraction) → x ≈ x
eq_refl x = record { eq = refl }

infixr 5 ◌⨟◌
pub ◌⨟◌ : {x y z : Fraction} → x ≈ y → y ≈ z → x ≈ z
◌⨟◌ {x} {y} {z} h k = eq_trans x y z h k

pub back : {x y : Fraction} → x ≈ y → y ≈ x
back {x} {y} h = eq_sym x y h

-- ---- 0, 1 and n at any scale
pub at_zero : (D : ℕ) → At D (frac 0 1) 0 0
at_zero D = record { at = omega arith }

pub at_one : (D : ℕ) → At D (frac 1 1) D 0
at_one D = record { at = omega arith }

pub at_count : (D n : ℕ) → At D (frac n 1) (n * D) 0
at_count D n = record { at = omega arith }

-- ---- equal parts
module _ {x x' y y' : Fraction} where
  pub mul_same : x ≈ x' → y ≈ y' → x *F y ≈ x' *F y'
  mul_same h k =
      common (x ∷ x' ∷ y ∷ y' ∷ [])
      (λ D D0 ((a, b, X), ((p, n, X'), ((c, f, Y), ((q, m, Y'), _)))). at_eq (D * D) (mul-pos D0 D0) (at_mul X Y)
      (at_mul X' Y')
      (go a b p n c f q m (eq_at D D0 X X' h) (eq_at D D0 Y Y' k)))
    where
      go : (a b p n c f q m : ℕ) → a + n ≡ p + b → c + m ≡ q + f
          → a * c + b * f + (p * m + n * q) ≡ p * q + n * m + (a * f + b * c)
      go a b p n c f q m h k =
          let h1 : (a + n) * c ≡ (p + b) * c = ap (λ (z : ℕ). z * c) h in
          let h2 : (a + n) * f ≡ (p + b) * f = ap (λ (z : ℕ). z * f) h in
          let k1 : (c + m) * p ≡ (q + f) * p = ap (λ (z : ℕ). z * p) k in
          let k2 : (c + m) * n ≡ (q + f) * n = ap (λ (z : ℕ). z * n) k in
          omega arith

  pub sub_same : x ≈ x' → y ≈ y' → x -F y ≈ x' -F y'
  sub_same h k =
      common (x ∷ x' ∷ y ∷ y' ∷ [])
      (λ D D0 ((_, _, X), ((_, _, X'), ((_, _, Y), ((_, _, Y'), _)))). at_eq D D0 (at_sub X Y) (at_sub X' Y')
      (let a = eq_at D D0 X X' h in let b = eq_at D D0 Y Y' k in omega arith))

-- ---- the ring
module _ (x : Fraction) where
  pub mul_one : x *F frac 1 1 ≈ x
  mul_one = common (x ∷ []) (λ D D0 ((_, _, X), _). at_eq (D * D) (mul-pos D0 D0) (at_mul X (at_one D)) (at_more D D X)
      (omega arith))

  pub one_mul : frac 1 1 *F x ≈ x
  one_mul = common (x ∷ []) (λ D D0 ((_, _, X), _). at_eq (D * D) (mul-pos D0 D0) (at_mul (at_one D) X) (at_more D D X)
      (omega arith))

  pub mul_zero : x *F frac 0 1 ≈ frac 0 1
  mul_zero = common (x ∷ [])
      (λ D D0 ((_, _, X), _). at_eq (D * D) (mul-pos D0 D0) (at_mul X (at_zero D)) (at_zero (D * D)) (omega arith))

  pub add_zero : x +F frac 0 1 ≈ x
  add_zero = common (x ∷ []) (λ D D0 ((_, _, X), _). at_eq D D0 (at_add X (at_zero D)) X (omega arith))

module _ (x y : Fraction) where
  pub mul_comm : x *F y ≈ y *F x
  mul_comm = common (x ∷ y ∷ [])
      (λ D D0 ((_, _, X), ((_, _, Y), _)). at_eq (D * D) (mul-pos D0 D0) (at_mul X Y) (at_mul Y X) (omega arith))

  pub add_comm : x +F y ≈ y +F x
  add_comm = common (x ∷ y ∷ [])
      (λ D D0 ((_, _, X), ((_, _, Y), _)). at_eq D D0 (at_add X Y) (at_add Y X) (omega arith))

module _ (x y z : Fraction) where
  -- the same parts, one by one
  pub mul_assoc : x *F y *F z ≈ x *F (y *F z)
  mul_assoc = subst (λ (w : Fraction). x *F y *F z ≈ w)
      (λ i. record { plus = parts.0 i; minus = parts.1 i; under = unders i }) (eq_refl (x *F y *F z))
    where
      parts : ((x *F y *F z).plus ≡ (x *F (y *F z)).plus) × ((x *F y *F z).minus ≡ (x *F (y *F z)).minus)
      parts = unfold ◌*F◌ in (omega arith, omega arith)

      unders : (x *F y *F z).under ≡ (x *F (y *F z)).under
      unders = unfold ◌*F◌ in omega arith

  pub add_assoc : x +F y +F z ≈ x +F (y +F z)
  add_assoc =
      common (x ∷ y ∷ z ∷ [])
      (λ D D0 ((_, _, X), ((_, _, Y), ((_, _, Z), _))). at_eq D D0 (at_add (at_add X Y) Z) (at_add X (at_add Y Z))
      (omega arith))

  pub mul_add : x *F (y +F z) ≈ x *F y +F x *F z
  mul_add =
      common (x ∷ y ∷ z ∷ [])
      (λ D D0 ((_, _, X), ((_, _, Y), ((_, _, Z), _))).
      at_eq (D * D) (mul-pos D0 D0) (at_mul X (at_add Y Z)) (at_add (at_mul X Y) (at_mul X Z)) (omega arith))

  pub mul_sub : x *F (y -F z) ≈ x *F y -F x *F z
  mul_sub =
      common (x ∷ y ∷ z ∷ [])
      (λ D D0 ((_, _, X), ((_, _, Y), ((_, _, Z), _))).
      at_eq (D * D) (mul-pos D0 D0) (at_mul X (at_sub Y Z)) (at_sub (at_mul X Y) (at_mul X Z)) (omega arith))

  pub add_mul : (x +F y) *F z ≈ x *F z +F y *F z
  add_mul =
      common (x ∷ y ∷ z ∷ [])
      (λ D D0 ((_, _, X), ((_, _, Y), ((_, _, Z), _))).
      at_eq (D * D) (mul-pos D0 D0) (at_mul (at_add X Y) Z) (at_add (at_mul X Z) (at_mul Y Z)) (omega arith))

-- ---- the order
pub lt_or_le : (x y : Fraction) → (x <F y) ⊎ (y ≤F x)
lt_or_le x y = ⊎_elim (λ h. inl (record { lt = h })) (λ h. inr (record { le = h }))
    (Naturals.lt_or_le (x.plus * over y + y.minus * over x) (y.plus * over x + x.minus * over y))

pub le_same : {x x' y y' : Fraction} → x ≈ x' → y ≈ y' → x ≤F y → x' ≤F y'
le_same {x} {x'} {y} {y'} h k l = le_trans x' x y' (eq_le x' x (back h)) (le_trans x y y' l (eq_le y y' k))

module _ {x y z : Fraction} where
  pub lt_le_trans : x <F y → y ≤F z → x <F z
  lt_le_trans h k = common (x ∷ y ∷ z ∷ [])
      (λ D D0 ((_, _, X), ((_, _, Y), ((_, _, Z), _))). let a = lt_at D D0 X Y h in let b = le_at D D0 Y Z k in
      at_lt D D0 X Z (omega arith))

  pub le_lt_trans : x ≤F y → y <F z → x <F z
  le_lt_trans h k = common (x ∷ y ∷ z ∷ [])
      (λ D D0 ((_, _, X), ((_, _, Y), ((_, _, Z), _))). let a = le_at D D0 X Y h in let b = lt_at D D0 Y Z k in
      at_lt D D0 X Z (omega arith))

pub rearrange : (p n a b : ℕ) → n ≤ p → a ≤ b → p * a + n * b ≤ p * b + n * a
rearrange p n a b h k =
    go (p - n) n a b (p * a) (p * b) (ap (λ (z : ℕ). z * a) (whole n p h)) (ap (λ (z : ℕ). z * b) (whole n p h))
    (mul-le-mul_right (p - n) k)
  where
    whole : (n p : ℕ) → n ≤ p → n + (p - n) ≡ p
    whole n p h = omega arith

    go : (j n a b pa pb : ℕ) → (n + j) * a ≡ pa → (n + j) * b ≡ pb → a * j ≤ b * j → pa + n * b ≤ pb + n * a
    go j n a b pa pb s t l = omega arith

module _ {w x y : Fraction} where
  pub mul_le : frac 0 1 ≤F w → x ≤F y → w *F x ≤F w *F y
  mul_le h k =
      common (w ∷ x ∷ y ∷ [])
      (λ D D0 ((a, b, W), ((p, n, X), ((q, m, Y), _))). at_le (D * D) (mul-pos D0 D0) (at_mul W X) (at_mul W Y)
      (let z = le_at D D0 (at_zero D) W h in go a b p n q m (omega arith) (le_at D D0 X Y k)))
    where
      go : (a b p n q m : ℕ) → b ≤ a → p + m ≤ q + n → a * p + b * n + (a * m + b * q) ≤ a * q + b * m + (a * n + b * p)
      go a b p n q m h k = omega (arith, rearrange a b (p + m) (q + n) h k)

  pub le_mul : frac 0 1 ≤F w → x ≤F y → x *F w ≤F y *F w
  le_mul h k = le_same (mul_comm w x) (mul_comm w y) (mul_le h k)

  -- a factor above 0 may go
  pub mul_cancel_le : frac 0 1 <F w → x *F w ≤F y *F w → x ≤F y
  mul_cancel_le h k =
      common (w ∷ x ∷ y ∷ [])
      (λ D D0 ((a, b, W), ((p, n, X), ((q, m, Y), _))). at_le D D0 X Y
      (let z = lt_at D D0 (at_zero D) W h in
      go a b p n q m (omega arith) (le_at (D * D) (mul-pos D0 D0) (at_mul X W) (at_mul Y W) k)))
    where
      above : (b a : ℕ) → b < a → 0 < a - b
      above b a h = omega arith

      split : (b a c : ℕ) → b < a → a * c ≡ b * c + c * (a - b)
      split b a c h = ap (λ (z : ℕ). z * c) (omega arith) ∙ rest (a - b) b c
        where
          rest : (j b c : ℕ) → (b + j) * c ≡ b * c + c * j
          rest j b c = omega arith

      go : (a b p n q m : ℕ) → b < a → p * a + n * b + (q * b + m * a) ≤ q * a + m * b + (p * b + n * a) → p + m ≤ q + n
      go a b p n q m h k =
          le_of_mul-le-mul_right (last (a * (p + m)) (a * (q + n)) b p n q m ((p + m) * (a - b)) ((q + n) * (a - b))
          (omega arith) (split b a (p + m) h) (split b a (q + n) h)) (above b a h)
        where
          last : (l r b p n q m s t : ℕ) → l + b * (n + q) ≤ r + b * (m + p) → l ≡ b * (p + m) + s
              → r ≡ b * (q + n) + t → s ≤ t
          last l r b p n q m s t h u v = omega arith

pub mul_mono : {x x' y y' : Fraction} → frac 0 1 ≤F x → frac 0 1 ≤F y' → x ≤F x' → y ≤F y' → x *F y ≤F x' *F y'
mul_mono {x} {x'} {y} {y'} x0 y0 h k = le_trans (x *F y) (x *F y') (x' *F y') (mul_le x0 k) (le_mul y0 h)

pub nonneg_mul : {x y : Fraction} → frac 0 1 ≤F x → frac 0 1 ≤F y → frac 0 1 ≤F x *F y
nonneg_mul {x} {y} h k = le_same (mul_zero x) (eq_refl (x *F y)) (mul_le h k)

-- ---- from 0 to 1
pub unit_zero : Unit01 (frac 0 1)
unit_zero = (record { le = omega arith }, record { le = omega arith })

pub unit_one : Unit01 (frac 1 1)
unit_one = (record { le = omega arith }, record { le = omega arith })

pub unit_same : {x y : Fraction} → x ≈ y → Unit01 x → Unit01 y
unit_same h u = (le_same (eq_refl (frac 0 1)) h u.0, le_same h (eq_refl (frac 1 1)) u.1)

pub unit_mul : {x y : Fraction} → Unit01 x → Unit01 y → Unit01 (x *F y)
unit_mul {x} {y} h k = (
  nonneg_mul h.0 k.0,
  le_same (eq_refl (x *F y)) (mul_one (frac 1 1)) (mul_mono h.0 unit_one.0 h.1 k.1),
)

pub unit_rest : {t : Fraction} → Unit01 t → Unit01 (frac 1 1 -F t)
unit_rest {t} h =
    common (t ∷ [])
    (λ D D0 ((_, _, X), _).
    let a = le_at D D0 (at_zero D) X h.0 in
    let b = le_at D D0 X (at_one D) h.1 in (
      at_le D D0 (at_zero D) (at_sub (at_one D) X) (omega arith),
      at_le D D0 (at_sub (at_one D) X) (at_one D) (omega arith),
    ))
