-- The conditions of the exact chain at one output pixel, worked in exact fractions: each coefficient times its power is
-- at most 16,384 in magnitude in the sums for u and v, and so are u and v; perspective denominators are at least
-- 1/1,024 with terms of magnitude at most 4. Specification 11.2. Assumes nothing.
use Rattle.std.specs.Prelude.{ℕ, ◌<◌, ◌≡◌, true, T, Float}
use Rattle.std.specs.Float.Ieee.Scale.{finite}
use Rattle.exact.specs.Fraction.{Fraction, frac, value, ◌≤F◌, ◌*F◌, abs_f}
use Rattle.exact.specs.Sums.{Linear, largest_term}
use Rattle.exact.specs.Warp.{Coordinate}
use Rattle.exact.specs.Vector.{Vector, at}
use Rattle.mappings.specs.declared.mapping.Kind.{Kind}
use Rattle.point.specs.declared.point.Point.{Point}
use Rattle.inverse.specs.Polynomial.{of_u, of_v}
use Rattle.chain.specs.ExactPoint.{denominator_f, power_at, many, exact_point}

-- of perspective denominators: the largest term, and how small they may be
abbrev pub largest_denominator_term : Fraction
largest_denominator_term = frac 4 1

abbrev pub least_denominator : Fraction
least_denominator = frac 1 1024

-- ---- the terms. Each coefficient is a number, so that its bits name a fraction.
pub record AffineTerms (m : Vector) (X Y : Fraction) : Type 0 where
  pub u : Linear (at m 0) (at m 1) (at m 2) X Y largest_term
  pub v : Linear (at m 3) (at m 4) (at m 5) X Y largest_term

pub record PerspectiveTerms (m : Vector) (X Y : Fraction) : Type 0 where
  pub u : Linear (at m 0) (at m 1) (at m 2) X Y largest_term
  pub v : Linear (at m 3) (at m 4) (at m 5) X Y largest_term
  pub w : Linear (at m 6) (at m 7) (at m 8) X Y largest_denominator_term
  pub least : least_denominator ≤F denominator_f m X Y

pub record PolyTerms (order : ℕ) (X Y : Fraction) (c : ℕ → Float) : Type 0 where
  pub number : (k : ℕ) → k < many order X Y → T (finite (c k))
  pub size : (k : ℕ) → k < many order X Y → abs_f (power_at order X Y k *F value (c k)) ≤F largest_term

-- by the kind: affine, perspective, polynomial, and no other
unfoldable pub TermsMeet : Kind → ℕ → Vector → Fraction → Fraction → Type 0
TermsMeet Kind.Nothing order m X Y = ⊥
TermsMeet Kind.Affine order m X Y = AffineTerms m X Y
TermsMeet Kind.Perspective order m X Y = PerspectiveTerms m X Y
TermsMeet Kind.Poly order m X Y = PolyTerms order X Y (of_u m) × PolyTerms order X Y (of_v m (many order X Y))
TermsMeet Kind.BilinearForward order m X Y = ⊥
TermsMeet Kind.Barrel order m X Y = ⊥
TermsMeet Kind.BarrelInverse order m X Y = ⊥
TermsMeet Kind.Shepards order m X Y = ⊥

pub record Meets (kind : Kind) (order : ℕ) (m : Vector) (X Y : Fraction) : Type 0 where
  pub terms : TermsMeet kind order m X Y
  pub u : abs_f (exact_point kind order m X Y).0 ≤F largest_term
  pub v : abs_f (exact_point kind order m X Y).1 ≤F largest_term

-- ---- what follows of a source point: it is usable, and both coordinates are within 3/4 of 2^-24 of the exact ones and
-- at most 16,385 in size
pub record Faithful (p : Point) (exact : Fraction × Fraction) : Type 0 where
  pub usable : p.usable ≡ true
  pub u : Coordinate p.u exact.0
  pub v : Coordinate p.v exact.1
