-- Sizes of products, and factors near 1: |x y| is |x| |y|; what lies within |z| u of z is z times a factor within u of
-- 1, since it may be divided by z; and three factors within m, n and 1 parts in U of 1 have a product within m + n + 2
-- parts, the products of the errors being small. Provides: `mul_abs`, `abs_least`, `within_neg`, `factor_near`,
-- `near_three`. Assumes nothing.
use mathlib.Core.List.{[], ◌∷◌}
use mathlib.Core.Logic.{◌⊎◌, inl, inr}
use Prim.Native.Nat.{ℕ, ◌+◌, ◌*◌, ◌≤◌, ◌<◌}
use native.Mathlib.Nat.{mul-pos}
use native.Mathlib.Omega.{arith}
use Rattle.exact.specs.Fraction.{Fraction, frac, ◌≤F◌, ◌<F◌, ◌≈◌, neg_f, ◌+F◌, ◌*F◌, ◌/F◌, abs_f, Within}
use Rattle.exact.proofs.Scale.{At, at_le, le_at, at_eq, eq_at, at_neg, at_add, at_mul, at_more, at_ratio, common}
use Rattle.exact.proofs.Near.{at_abs, within_at, at_within, within_more, le_refl, lt_le, le_trans}
use Rattle.exact.proofs.Products.{
  eq_refl,
  ◌⨟◌,
  back,
  at_zero,
  at_one,
  lt_or_le,
  lt_le_trans,
  le_same,
  mul_comm,
  one_mul,
  mul_mono,
  le_mul,
}
use Rattle.exact.proofs.NearProducts.{at_abs_le, abs_open, abs_self, abs_near, within_like, within_mul}
use Rattle.exact.proofs.Quotients.{div_mul_pos, div_only, within_cancel}

-- ---- |x| |y| ≤ |x y|
pub mul_abs : (x y : Fraction) → abs_f x *F abs_f y ≤F abs_f (x *F y)
mul_abs x y =
    common (x ∷ y ∷ []) (λ D D0 ((_, _, X), ((_, _, Y), _)). go D D0 X Y (at_abs x X) (at_abs y Y)
    (abs_open (x *F y) (abs_f (x *F y)) (le_refl (abs_f (x *F y)) (abs_f (x *F y)))))
  where
    go : (D : ℕ) → 0 < D → {p n q m : ℕ} → At D x p n → At D y q m → (At D (abs_f x) p n × (n ≤ p))
        ⊎ (At D (abs_f x) n p × (p ≤ n)) → (At D (abs_f y) q m × (m ≤ q)) ⊎ (At D (abs_f y) m q × (q ≤ m))
        → (x *F y ≤F abs_f (x *F y)) × (neg_f (x *F y) ≤F abs_f (x *F y)) → abs_f x *F abs_f y ≤F abs_f (x *F y)
    go D D0 X Y (inl a) (inl b) h =
        le_same (at_eq (D * D) (mul-pos D0 D0) (at_mul X Y) (at_mul a.0 b.0) (omega arith))
        (eq_refl (abs_f (x *F y))) h.0
    go D D0 X Y (inl a) (inr b) h =
        le_same (at_eq (D * D) (mul-pos D0 D0) (at_neg (at_mul X Y)) (at_mul a.0 b.0) (omega arith))
        (eq_refl (abs_f (x *F y))) h.1
    go D D0 X Y (inr a) (inl b) h =
        le_same (at_eq (D * D) (mul-pos D0 D0) (at_neg (at_mul X Y)) (at_mul a.0 b.0) (omega arith))
        (eq_refl (abs_f (x *F y))) h.1
    go D D0 X Y (inr a) (inr b) h =
        le_same (at_eq (D * D) (mul-pos D0 D0) (at_mul X Y) (at_mul a.0 b.0) (omega arith))
        (eq_refl (abs_f (x *F y))) h.0

pub abs_least : (x y a b : Fraction) → frac 0 1 ≤F a → frac 0 1 ≤F abs_f y → a ≤F abs_f x → b ≤F abs_f y
    → a *F b ≤F abs_f (x *F y)
abs_least x y a b a0 y0 h k = le_trans (a *F b) (abs_f x *F abs_f y) (abs_f (x *F y)) (mul_mono a0 y0 h k) (mul_abs x y)

-- ---- what is near z is z times a factor near 1
pub within_neg : (x y e : Fraction) → Within x y e → Within (neg_f x) (neg_f y) e
within_neg x y e h =
    common (x ∷ y ∷ e ∷ [])
    (λ D D0 ((_, _, X), ((_, _, Y), ((_, _, E), _))). let k = within_at D D0 X Y E h in
    at_within D D0 (at_neg X) (at_neg Y) E (omega arith) (omega arith))

abbrev pub Factor : Fraction → Fraction → Fraction → Type 0
Factor r z u = (d : Fraction) × (r ≈ z *F d) × Within d (frac 1 1) u

pub factor_near : (r z u : Fraction) → frac 0 1 ≤F u → frac 0 1 <F abs_f z → Within r z (abs_f z *F u) → Factor r z u
factor_near r z u u0 z0 h = elim (lt_or_le (frac 0 1) z) [
  | inl l ↦ above r z l (within_more r z (abs_f z *F u) (z *F u) (le_mul u0 (abs_self z (lt_le (frac 0 1) z l))) h)
  | inr l ↦
      let w = above (neg_f r) (neg_f z) (turned l)
      (within_more (neg_f r) (neg_f z) (abs_f z *F u) (neg_f z *F u) (le_mul u0 (abs_below l))
      (within_neg r z (abs_f z *F u) h)) in
      (w.0, untwist w.0 w.1, w.2)
]
  where
    above : (r z : Fraction) → frac 0 1 <F z → Within r z (z *F u) → Factor r z u
    above r z l h = (
      r /F z,
      back (mul_comm z (r /F z) ⨟ div_mul_pos r z l),
      within_like (eq_refl (r /F z)) (eq_refl (frac 1 1)) (div_only (z *F u) z u l (mul_comm u z))
          (within_cancel (r /F z) (frac 1 1) (z *F u) z z l (le_refl z z)
          (within_like (back (div_mul_pos r z l)) (back (one_mul z)) (eq_refl (z *F u)) h)),
    )

    -- below 0 and not 0
    abs_below : z ≤F frac 0 1 → abs_f z ≤F neg_f z
    abs_below l =
        common (z ∷ []) (λ D D0 ((_, _, Z), _). let k = le_at D D0 Z (at_zero D) l in
        at_abs_le D D0 Z (at_neg Z) (omega arith) (omega arith))

    turned : z ≤F frac 0 1 → frac 0 1 <F neg_f z
    turned l = lt_le_trans z0 (abs_below l)

    untwist : (d : Fraction) → neg_f r ≈ neg_f z *F d → r ≈ z *F d
    untwist d e =
        common (r ∷ z ∷ d ∷ [])
        (λ D D0 ((_, _, R), ((_, _, Z), ((_, _, W), _))). at_eq (D * D) (mul-pos D0 D0) (at_more D D R) (at_mul Z W)
        (let k = eq_at (D * D) (mul-pos D0 D0) (at_neg (at_more D D R)) (at_mul (at_neg Z) W) e in omega arith))

-- ---- factors near 1
pub near_three : (U m n : ℕ) → 0 < U → m * n * U + (m + n) * U + m * n ≤ U * U → (a b c : Fraction)
    → Within a (frac 1 1) (frac m U) → Within b (frac 1 1) (frac n U) → Within c (frac 1 1) (frac 1 U)
    → Within (a *F b *F c) (frac 1 1) (frac (m + n + 2) U)
near_three U m n U0 small a b c h k l =
    let one : Fraction = frac 1 1 in
    let e : Fraction = frac m U *F (one +F frac n U) +F one *F frac n U in
    let ab : Within (a *F b) (one *F one) e =
    within_mul a one b one (frac m U) (frac n U) one (one +F frac n U) one_one
    (abs_near b one (frac n U) one k one_one) h k in
    within_more (a *F b *F c) one (e *F (one +F frac 1 U) +F one *F frac 1 U) (frac (m + n + 2) U) parts
    (within_like (eq_refl (a *F b *F c)) (one_mul one) (eq_refl (e *F (one +F frac 1 U) +F one *F frac 1 U))
    (within_mul (a *F b) one c one e (frac 1 U) one (one +F frac 1 U) one_one (abs_near c one (frac 1 U) one l one_one)
    (within_like (eq_refl (a *F b)) (one_mul one) (eq_refl e) ab) l))
  where
    one_one : abs_f (frac 1 1) ≤F frac 1 1
    one_one = abs_self (frac 1 1) (record { le = omega arith })

    parts : (frac m U *F (frac 1 1 +F frac n U) +F frac 1 1 *F frac n U) *F (frac 1 1 +F frac 1 U)
        +F frac 1 1 *F frac 1 U ≤F frac (m + n + 2) U
    parts =
        let M = at_ratio m 0 U U0 in
        let N = at_ratio n 0 U U0 in
        let I = at_ratio 1 0 U U0 in
        let one = at_one U in
        at_le (U * U * U) (mul-pos (mul-pos U0 U0) U0)
        (at_add (at_mul (at_add (at_mul M (at_add one N)) (at_mul one N)) (at_add one I))
        (at_more (U * U) U (at_mul one I)))
        (at_more (U * U) U (at_more U U (at_ratio (m + n + 2) 0 U U0))) (omega arith)
