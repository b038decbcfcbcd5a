-- Under the conditions of the exact chain the source point is usable and near the exact one: each kind by the law of
-- its sums. Provides: `affine_near`, `perspective_near`, `polynomial_near`; `point_near` (by the kind, at any
-- coordinates), `asked_near` (at a pixel). Assumes nothing.
use mathlib.Core.Path.{◌≡◌, sym, ◌∙◌, subst, subst⁻¹}
use Prim.Native.Nat.{ℕ, ◌^◌, ◌≤◌}
use lib.Dec.{lit≤}
use lib.IntN.{ℤ, nat_abs}
use lib.ListN.{length}
use lib.Ieee.{Float}
use Rattle.exact.specs.Fraction.{Fraction, frac, ◌≤F◌, abs_f}
use Rattle.exact.specs.Rounds.{Close}
use Rattle.exact.specs.Sums.{PixelCoordinate, asked, asked_f}
use Rattle.exact.specs.Warp.{coordinate_error}
use Rattle.exact.proofs.Near.{le_refl}
use Rattle.exact.proofs.Steps.{close_more}
use Rattle.exact.proofs.Pixels.{asked_coordinate}
use Rattle.exact.proofs.Linear.{affine_close}
use Rattle.exact.proofs.Perspective.{perspective_passes, perspective_close}
use Rattle.exact.proofs.Polynomial.{plus_zero, polynomial_close}
use Rattle.exact.specs.Vector.{Vector, at}
use Rattle.linear.specs.Matrix.{nought}
use Rattle.mappings.specs.Monomials.{monomials}
use Rattle.mappings.specs.declared.mapping.Kind.{Kind}
use Rattle.point.specs.Point.{point}
use Rattle.inverse.specs.Affine.{affine}
use Rattle.inverse.specs.Perspective.{perspective}
use Rattle.inverse.specs.Polynomial.{dot, dots, of_u, of_v, polynomial}
use Rattle.inverse.specs.Inverse.{inverse}
use Rattle.chain.specs.ExactPoint.{sum_u, sum_v, power_at, many, poly_f, exact_point}
use Rattle.chain.specs.Conditions.{AffineTerms, PerspectiveTerms, PolyTerms, TermsMeet, Meets, Faithful}
use Rattle.point.proofs.UsableLaws.{usable_close}
use Rattle.inverse.proofs.PolynomialLaws.{monomials_length, terms_few}
use Rattle.chain.proofs.MonomialsNear.{alike_length, alike_at, alike_monomials}

-- from two coordinates, each within some e below the limit
faithful : {u v : Float} {U W : Fraction} (e : Fraction) → e ≤F coordinate_error → Close u U e (frac 16385 1)
    → Close v W e (frac 16385 1) → Faithful (point u v) (U, W)
faithful e h c d = record {
  usable = usable_close c d;
  u = close_more h (le_refl (frac 16385 1) (frac 16385 1)) c;
  v = close_more h (le_refl (frac 16385 1) (frac 16385 1)) d;
}

module _ {x y : Float} {X Y : Fraction} (c : PixelCoordinate x X) (d : PixelCoordinate y Y) where
  pub affine_near : (m : Vector) → AffineTerms m X Y → abs_f (sum_u m X Y) ≤F frac 16384 1
      → abs_f (sum_v m X Y) ≤F frac 16384 1
      → Faithful (affine m x y) (sum_u m X Y, sum_v m X Y)
  affine_near m t p q = faithful (frac 1 (2 ^ 37)) (record { le = lit≤ tt }) (affine_close c d t.u p)
      (affine_close c d t.v q)

  pub perspective_near : (m : Vector) → PerspectiveTerms m X Y → abs_f (exact_point Kind.Perspective 0 m X Y).0 ≤F frac 16384 1
      → abs_f (exact_point Kind.Perspective 0 m X Y).1 ≤F frac 16384 1
      → Faithful (perspective m x y) (exact_point Kind.Perspective 0 m X Y)
  unfolding perspective exact_point
  perspective_near m t p q =
      rw (perspective_passes c d t.w t.least)
      (faithful _ (record { le = lit≤ tt }) (perspective_close c d t.w t.least t.u p)
      (perspective_close c d t.w t.least t.v q))

  -- ---- a polynomial's sum
  long : (order : ℕ) → length (monomials order x y) ≡ many order X Y
  long order = alike_length (alike_monomials c d order)

  sum_near : (order : ℕ) (w : ℕ → Float) → PolyTerms order X Y w → abs_f (poly_f order X Y w) ≤F frac 16384 1
      → Close (dot (monomials order x y) w (many order X Y)) (poly_f order X Y w) (frac 1 (2 ^ 29)) (frac 16385 1)
  sum_near order w t h =
      polynomial_close nought plus_zero.0 plus_zero.1 (many order X Y)
      (subst (λ (n : ℕ). n ≤ 21) (sym (monomials_length order x y) ∙ long order) (terms_few order))
      (at (monomials order x y)) w (power_at order X Y)
      (λ (k : ℕ) l. let r = alike_at (alike_monomials c d order) k l in
      record { degree = r.degree; monomial = r.near; number = t.number k l; size = t.size k l })
      h

  pub polynomial_near : (order : ℕ) (m : Vector) → PolyTerms order X Y (of_u m)
      → PolyTerms order X Y (of_v m (many order X Y))
      → abs_f (poly_f order X Y (of_u m)) ≤F frac 16384 1 → abs_f (poly_f order X Y (of_v m (many order X Y))) ≤F frac 16384 1
      → Faithful (polynomial order m x y) (poly_f order X Y (of_u m), poly_f order X Y (of_v m (many order X Y)))
  unfolding polynomial
  polynomial_near order m t s p q =
      subst⁻¹ (λ (n : ℕ). Faithful (dots (monomials order x y) m n)
      (poly_f order X Y (of_u m), poly_f order X Y (of_v m (many order X Y)))) (long order)
      (faithful (frac 1 (2 ^ 29)) (record { le = lit≤ tt }) (sum_near order (of_u m) t p)
      (sum_near order (of_v m (many order X Y)) s q))

  -- ---- by the kind
  pub point_near : (kind : Kind) (order count : ℕ) (m : Vector) → Meets kind order m X Y
      → Faithful (inverse kind order count m x y) (exact_point kind order m X Y)
  unfolding inverse exact_point TermsMeet
  point_near Kind.Nothing order count m M = absurd M.terms
  point_near Kind.Affine order count m M = affine_near m M.terms M.u M.v
  point_near Kind.Perspective order count m M = perspective_near m M.terms M.u M.v
  point_near Kind.Poly order count m M = polynomial_near order m M.terms.0 M.terms.1 M.u M.v
  point_near Kind.BilinearForward order count m M = absurd M.terms
  point_near Kind.Barrel order count m M = absurd M.terms
  point_near Kind.BarrelInverse order count m M = absurd M.terms
  point_near Kind.Shepards order count m M = absurd M.terms

-- at the output pixel (i, j) of a window at the offset (o, p)
pub asked_near : (i j : ℕ) (o p : ℤ) → i ≤ 4096 → j ≤ 4096 → nat_abs o ≤ 1048576 → nat_abs p ≤ 1048576
    → (kind : Kind) (order count : ℕ) (m : Vector)
    → Meets kind order m (asked_f i o) (asked_f j p)
    → Faithful (inverse kind order count m (asked i o) (asked j p))
    (exact_point kind order m (asked_f i o) (asked_f j p))
asked_near i j o p hi hj ho hp = point_near (asked_coordinate i o hi ho) (asked_coordinate j p hj hp)
