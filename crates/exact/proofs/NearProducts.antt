-- Products of nearby fractions: |u| ≤ e and |v| ≤ b give |u v| ≤ e b, since (e - u) (b + v) and its three kin are not
-- negative; then x y - x' y' is (x - x') y + x' (y - y'). Provides: `abs_at`, `at_abs_le` (the working form of |x| ≤ a,
-- both ways), `abs_open`, `abs_close`, `abs_unit`, `abs_self`, `abs_near`, `abs_mul`, `abs_nonneg`; `within_like`
-- (equal parts), `within_unit`, `mul_within`, `within_mul_by`, `within_scale`, `within_mul`, `within_mul_unit`,
-- `within_nonneg`. Assumes nothing.
use mathlib.Core.List.{[], ◌∷◌}
use mathlib.Core.Logic.{⊎_elim}
use Prim.Native.Nat.{ℕ, ◌+◌, ◌*◌, ◌≤◌, ◌<◌}
use native.Mathlib.Nat.{mul-pos}
use native.Mathlib.Omega.{arith}
use Rattle.exact.specs.Fraction.{
  Fraction,
  frac,
  ◌≤F◌,
  ◌≈◌,
  neg_f,
  ◌+F◌,
  ◌-F◌,
  ◌*F◌,
  abs_f,
  distance,
  Within,
  Unit01,
}
use Rattle.exact.proofs.Scale.{At, at_le, le_at, eq_at, at_neg, at_add, at_mul, common}
use Rattle.exact.proofs.Near.{at_abs, within_at, at_within, within_trans, add_same}
use Rattle.exact.proofs.Products.{at_zero, at_one, eq_refl, rearrange, mul_comm, mul_one, one_mul, mul_sub}

-- ---- |x| ≤ a
module _ (D : ℕ) (D0 : 0 < D) {x a : Fraction} {p n r s : ℕ} (X : At D x p n) (A : At D a r s) where
  pub abs_at : abs_f x ≤F a → (p + s ≤ r + n) × (n + s ≤ r + p)
  abs_at h = ⊎_elim
      (λ (k : At D (abs_f x) p n × (n ≤ p)). let l = le_at D D0 k.0 A h in let g = k.1 in (omega arith, omega arith))
      (λ (k : At D (abs_f x) n p × (p ≤ n)). let l = le_at D D0 k.0 A h in let g = k.1 in (omega arith, omega arith))
      (at_abs x X)

  pub at_abs_le : p + s ≤ r + n → n + s ≤ r + p → abs_f x ≤F a
  at_abs_le h k = ⊎_elim
      (λ (g : At D (abs_f x) p n × (n ≤ p)). at_le D D0 g.0 A h)
      (λ (g : At D (abs_f x) n p × (p ≤ n)). at_le D D0 g.0 A k)
      (at_abs x X)

module _ (x a : Fraction) where
  pub abs_open : abs_f x ≤F a → (x ≤F a) × (neg_f x ≤F a)
  abs_open h = common (x ∷ a ∷ []) (λ D D0 ((_, _, X), ((_, _, A), _)). let k = abs_at D D0 X A h in
      (at_le D D0 X A k.0, at_le D D0 (at_neg X) A k.1))

  pub abs_close : x ≤F a → neg_f x ≤F a → abs_f x ≤F a
  abs_close h k = common (x ∷ a ∷ [])
      (λ D D0 ((_, _, X), ((_, _, A), _)). at_abs_le D D0 X A (le_at D D0 X A h) (le_at D D0 (at_neg X) A k))

  pub abs_nonneg : abs_f x ≤F a → frac 0 1 ≤F a
  abs_nonneg h = common (x ∷ a ∷ []) (λ D D0 ((_, _, X), ((_, _, A), _)). let k = abs_at D D0 X A h in
      at_le D D0 (at_zero D) A (omega arith))

pub abs_unit : (x : Fraction) → Unit01 x → abs_f x ≤F frac 1 1
abs_unit x h =
    common (x ∷ []) (λ D D0 ((_, _, X), _). let a = le_at D D0 (at_zero D) X h.0 in
    let b = le_at D D0 X (at_one D) h.1 in at_abs_le D D0 X (at_one D) (omega arith) (omega arith))

pub abs_self : (x : Fraction) → frac 0 1 ≤F x → abs_f x ≤F x
abs_self x h = common (x ∷ []) (λ D D0 ((_, _, X), _). let a = le_at D D0 (at_zero D) X h in
    at_abs_le D D0 X X (omega arith) (omega arith))

pub abs_near : (x y e a : Fraction) → Within x y e → abs_f y ≤F a → abs_f x ≤F a +F e
abs_near x y e a h k =
    common (x ∷ y ∷ e ∷ a ∷ [])
    (λ D D0 ((_, _, X), ((_, _, Y), ((_, _, E), ((_, _, A), _)))).
    let g = within_at D D0 X Y E h in
    let l = abs_at D D0 Y A k in
    at_abs_le D D0 X (at_add A E) (omega arith) (omega arith))

-- ---- |u v| ≤ e b
pub abs_mul : (u v e b : Fraction) → abs_f u ≤F e → abs_f v ≤F b → abs_f (u *F v) ≤F e *F b
abs_mul u v e b h k =
    common (u ∷ v ∷ e ∷ b ∷ [])
    (λ D D0 ((p, n, U), ((q, m, W), ((r, s, E), ((c, f, B), _)))).
    let x = abs_at D D0 U E h in
    let y = abs_at D D0 W B k in
    let g = go p n q m r s c f x.0 x.1 y.0 y.1 in
    at_abs_le (D * D) (mul-pos D0 D0) (at_mul U W) (at_mul E B) g.0 g.1)
  where
    go : (p n q m r s c f : ℕ) → p + s ≤ r + n → n + s ≤ r + p → q + f ≤ c + m → m + f ≤ c + q
        → (p * q + n * m + (r * f + s * c) ≤ r * c + s * f + (p * m + n * q))
        × (p * m + n * q + (r * f + s * c) ≤ r * c + s * f + (p * q + n * m))
    go p n q m r s c f h h' k k' = (
      omega (arith, rearrange (r + n) (p + s) (m + f) (c + q) h k', rearrange (r + p) (n + s) (q + f) (c + m) h' k),
      omega (arith, rearrange (r + n) (p + s) (q + f) (c + m) h k, rearrange (r + p) (n + s) (m + f) (c + q) h' k'),
    )

-- ---- distances
pub within_like : {x x' y y' e e' : Fraction} → x ≈ x' → y ≈ y' → e ≈ e' → Within x y e → Within x' y' e'
within_like {x} {x'} {y} {y'} {e} {e'} h k l w =
    common (x ∷ x' ∷ y ∷ y' ∷ e ∷ e' ∷ [])
    (λ D D0 ((_, _, X), ((_, _, X'), ((_, _, Y), ((_, _, Y'), ((_, _, E), ((_, _, E'), _)))))).
    let a = eq_at D D0 X X' h in
    let b = eq_at D D0 Y Y' k in
    let c = eq_at D D0 E E' l in
    let g = within_at D D0 X Y E w in
    at_within D D0 X' Y' E' (omega arith) (omega arith))

pub within_unit : (x y : Fraction) → Unit01 x → Unit01 y → Within x y (frac 1 1)
within_unit x y h k =
    common (x ∷ y ∷ [])
    (λ D D0 ((_, _, X), ((_, _, Y), _)).
    let a = le_at D D0 (at_zero D) X h.0 in
    let b = le_at D D0 X (at_one D) h.1 in
    let c = le_at D D0 (at_zero D) Y k.0 in
    let d = le_at D D0 Y (at_one D) k.1 in
    at_within D D0 X Y (at_one D) (omega arith) (omega arith))

module _ (x y e : Fraction) where
  pub within_nonneg : Within x y e → frac 0 1 ≤F e
  unfolding distance
  within_nonneg h = abs_nonneg (x -F y) e h

  -- a factor on the left, on the right
  pub mul_within : (w b : Fraction) → abs_f w ≤F b → Within x y e → Within (w *F x) (w *F y) (b *F e)
  unfolding distance
  mul_within w b k h = abs_same (mul_sub w x y) (abs_mul w (x -F y) b e k h)
    where
      abs_same : {u v a : Fraction} → u ≈ v → abs_f u ≤F a → abs_f v ≤F a
      abs_same {u} {v} {a} h k =
          common (u ∷ v ∷ a ∷ []) (λ D D0 ((_, _, U), ((_, _, W), ((_, _, A), _))). let c = eq_at D D0 U W h in
          let d = abs_at D D0 U A k in at_abs_le D D0 W A (omega arith) (omega arith))

  pub within_mul_by : (w b : Fraction) → abs_f w ≤F b → Within x y e → Within (x *F w) (y *F w) (e *F b)
  within_mul_by w b k h = within_like (mul_comm w x) (mul_comm w y) (mul_comm b e) (mul_within w b k h)

  pub within_scale : (w : Fraction) → frac 0 1 ≤F w → Within x y e → Within (w *F x) (w *F y) (w *F e)
  within_scale w k h = mul_within w w (abs_self w k) h

module _ (x x' y y' e f : Fraction) where
  pub within_mul : (a b : Fraction) → abs_f x' ≤F a → abs_f y ≤F b → Within x x' e → Within y y' f
      → Within (x *F y) (x' *F y') (e *F b +F a *F f)
  within_mul a b k l h g = within_trans (x *F y) (x' *F y) (x' *F y') (e *F b) (a *F f) (within_mul_by x x' e y b l h)
      (mul_within y y' f x' a k g)

  -- factors from 0 to 1
  pub within_mul_unit : Unit01 x' → Unit01 y → Within x x' e → Within y y' f → Within (x *F y) (x' *F y') (e +F f)
  within_mul_unit k l h g =
      within_like (eq_refl (x *F y)) (eq_refl (x' *F y'))
      (add_same (e *F frac 1 1) e (frac 1 1 *F f) f (mul_one e) (one_mul f))
      (within_mul (frac 1 1) (frac 1 1) (abs_unit x' k) (abs_unit y l) h g)
