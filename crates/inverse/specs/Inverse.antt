-- `Mapping::inverse`: the source point of the output point (x, y), by the mapping's kind; one that is no mapping has
-- no point. Specification 7. Assumes nothing.
use Rattle.std.specs.Prelude.{ℕ, Float}
use Rattle.exact.specs.Vector.{Vector}
use Rattle.mappings.specs.declared.mapping.Kind.{Kind}
use Rattle.mappings.specs.declared.mapping.Kind.TheVariants.{
  Nothing,
  Affine,
  Perspective,
  Poly,
  BilinearForward,
  Barrel,
  BarrelInverse,
  Shepards,
}
use Rattle.point.specs.declared.point.Point.{Point}
use Rattle.point.specs.Point.{none}
use Rattle.inverse.specs.Affine.{affine}
use Rattle.inverse.specs.Perspective.{perspective}
use Rattle.inverse.specs.Polynomial.{polynomial}
use Rattle.inverse.specs.Forward.{bilinear_forward}
use Rattle.inverse.specs.Barrel.{barrel, barrel_inverse}
use Rattle.inverse.specs.Shepards.{shepards}

unfoldable pub inverse : Kind → ℕ → ℕ → Vector → Float → Float → Point
inverse Nothing order count coef x y = none
inverse Affine order count coef x y = affine coef x y
inverse Perspective order count coef x y = perspective coef x y
inverse Poly order count coef x y = polynomial order coef x y
inverse BilinearForward order count coef x y = bilinear_forward coef x y
inverse Barrel order count coef x y = barrel coef x y
inverse BarrelInverse order count coef x y = barrel_inverse coef x y
inverse Shepards order count coef x y = shepards count coef x y
