-- How far the exact pieces move when their argument does: by the rule for products, term by term.
-- Provides: `within_abs` (magnitudes are no further apart), `near_error`, `piece_near`, `piece_far`. Assumes nothing.
use mathlib.Core.List.{[], ◌∷◌}
use mathlib.Core.Logic.{◌⊎◌, inl, inr}
use Prim.Native.Nat.{ℕ, ◌+◌, ◌≤◌, ◌<◌}
use native.Mathlib.Omega.{arith}
use Rattle.exact.specs.Fraction.{Fraction, frac, ◌≤F◌, ◌+F◌, ◌*F◌, abs_f, Within}
use Rattle.exact.proofs.Scale.{At, common}
use Rattle.exact.proofs.Near.{at_abs, within_at, at_within, le_refl, within_same, within_add}
use Rattle.exact.proofs.Products.{eq_refl}
use Rattle.exact.proofs.NearProducts.{abs_mul, mul_within, within_mul}
use Rattle.cubic.specs.Mitchell.{without_linear_f, with_linear_f}

-- ---- magnitudes are no further apart
pub within_abs : (x y e : Fraction) → Within x y e → Within (abs_f x) (abs_f y) e
within_abs x y e h =
    common (x ∷ y ∷ e ∷ []) (λ D D0 ((_, _, X), ((_, _, Y), ((_, _, E), _))). let w = within_at D D0 X Y E h in
    go D D0 w.0 w.1 E (at_abs x X) (at_abs y Y))
  where
    go : (D : ℕ) → 0 < D → {p n q m r s : ℕ} → p + m + s ≤ q + n + r → q + n + s ≤ p + m + r → At D e r s
        → (At D (abs_f x) p n × (n ≤ p)) ⊎ (At D (abs_f x) n p × (p ≤ n))
        → (At D (abs_f y) q m × (m ≤ q)) ⊎ (At D (abs_f y) m q × (q ≤ m)) → Within (abs_f x) (abs_f y) e
    go D D0 h k E (inl a) (inl b) = at_within D D0 a.0 b.0 E h k
    go D D0 h k E (inl a) (inr b) = let u = a.1 in let w = b.1 in
        at_within D D0 a.0 b.0 E (omega arith) (omega arith)
    go D D0 h k E (inr a) (inl b) = let u = a.1 in let w = b.1 in
        at_within D D0 a.0 b.0 E (omega arith) (omega arith)
    go D D0 h k E (inr a) (inr b) = at_within D D0 a.0 b.0 E (omega arith) (omega arith)

-- ---- how far the pieces move: with magnitudes up to m that are e apart, and coefficients of at most p, q and r
abbrev pub square_error : Fraction → Fraction → Fraction
square_error e m = e *F m +F m *F e

abbrev pub cube_error : Fraction → Fraction → Fraction
cube_error e m = square_error e m *F m +F m *F m *F e

abbrev pub near_error : Fraction → Fraction → Fraction → Fraction → Fraction
near_error e m p q = p *F cube_error e m +F q *F square_error e m

module _ (x y e m : Fraction) (hx : abs_f x ≤F m) (hy : abs_f y ≤F m) (w : Within x y e) where
  square_near : Within (x *F x) (y *F y) (square_error e m)
  square_near = within_mul x y x y e e m m hy hx w w

  cube_near : Within (x *F x *F x) (y *F y *F y) (cube_error e m)
  cube_near = within_mul (x *F x) (y *F y) x y (square_error e m) e (m *F m) m (abs_mul y y m m hy hy) hx square_near w

  two_terms : (a b p q : Fraction) → abs_f a ≤F p → abs_f b ≤F q
      → Within (a *F (x *F x *F x) +F b *F (x *F x)) (a *F (y *F y *F y) +F b *F (y *F y)) (near_error e m p q)
  two_terms a b p q ha hb =
      within_add (a *F (x *F x *F x)) (a *F (y *F y *F y)) (b *F (x *F x)) (b *F (y *F y)) (p *F cube_error e m)
      (q *F square_error e m)
      (mul_within (x *F x *F x) (y *F y *F y) (cube_error e m) a p ha cube_near)
      (mul_within (x *F x) (y *F y) (square_error e m) b q hb square_near)

  same_term : (d : Fraction) → Within d d (frac 0 1)
  same_term d = within_same d d (frac 0 1) (eq_refl d) (le_refl (frac 0 1) (frac 0 1))

  pub piece_near : (a b d p q : Fraction) → abs_f a ≤F p → abs_f b ≤F q
      → Within (without_linear_f a b d x) (without_linear_f a b d y) (near_error e m p q +F frac 0 1)
  piece_near a b d p q ha hb =
      within_add (a *F (x *F x *F x) +F b *F (x *F x)) (a *F (y *F y *F y) +F b *F (y *F y)) d d (near_error e m p q)
      (frac 0 1) (two_terms a b p q ha hb) (same_term d)

  pub piece_far : (a b c d p q r : Fraction) → abs_f a ≤F p → abs_f b ≤F q → abs_f c ≤F r
      → Within (with_linear_f a b c d x) (with_linear_f a b c d y) (near_error e m p q +F r *F e +F frac 0 1)
  piece_far a b c d p q r ha hb hc =
      within_add (a *F (x *F x *F x) +F b *F (x *F x) +F c *F x) (a *F (y *F y *F y) +F b *F (y *F y) +F c *F y) d d
      (near_error e m p q +F r *F e) (frac 0 1)
      (within_add (a *F (x *F x *F x) +F b *F (x *F x)) (a *F (y *F y *F y) +F b *F (y *F y)) (c *F x) (c *F y)
      (near_error e m p q) (r *F e) (two_terms a b p q ha hb) (mul_within x y e c r hc w)) (same_term d)
