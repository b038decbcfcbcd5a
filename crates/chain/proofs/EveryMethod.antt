-- Each of the six methods of the third demand has a list that meets every premise, with a warp by that method: the
-- demand is empty for none of them. Assumes nothing.
use mathlib.Core.Path.{refl}
use mathlib.Core.Logic.{inl, inr}
use Prim.Native.Nat.{ℕ}
use Rattle.arguments.specs.Method as Method
use Rattle.chain.specs.Demand.{
  Chained,
  by_affine,
  by_affine_projection,
  by_perspective,
  by_perspective_projection,
}
use Rattle.chain.specs.Demand.{by_bilinear_reverse, by_polynomial}
use Rattle.chain.proofs.Example.{three_worked, one_worked}
use Rattle.chain.proofs.PerspectiveExample.{perspective_worked}
use Rattle.chain.proofs.PolynomialExample.{polynomial_worked}
use Rattle.chain.proofs.Worked.{Witness, witness}

pub every_method : (method : ℕ) → Chained method → Witness method
every_method method by_affine = witness Method.affine_code one_worked (inl refl)
every_method method by_affine_projection = witness Method.affine_projection_code three_worked (inl refl)
every_method method by_perspective = witness Method.perspective_code perspective_worked (inl refl)
every_method method by_perspective_projection = witness Method.perspective_projection_code three_worked (inr (inl refl))
every_method method by_bilinear_reverse = witness Method.bilinear_reverse_code three_worked (inr (inr (inl refl)))
every_method method by_polynomial = witness Method.polynomial_code polynomial_worked (inl refl)
