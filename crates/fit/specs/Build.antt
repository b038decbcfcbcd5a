-- `Mapping::build`: refusals 3 to 7 in the table's order, then the method's fit, which may give refusal 8.
-- Specification 5. Assumes nothing.
use Rattle.std.specs.Prelude.{ℕ, cond, List, pos, ◌==◌, Float}
use Rattle.std.specs.Float.{binary64}
use Rattle.std.specs.Float.Ieee.{of_int}
use Rattle.arguments.specs.Method as Method
use Rattle.arguments.specs.Refusal.{pairs_of, arguments_refusal}
use Rattle.arguments.specs.Store.{count_of, values_of, order_of}
use Rattle.fit.specs.Affine.{fit_affine, fit_affine_projection}
use Rattle.fit.specs.Barrel.{fit_barrel}
use Rattle.mappings.specs.Mapping.{Fitted, barrel_kind, barrel_inverse_kind, refused}
use Rattle.exact.specs.Vector.{Vector}
use Rattle.fit.specs.Perspective.{fit_perspective, fit_perspective_projection}
use Rattle.fit.specs.Polynomial.{fit_polynomial, fit_bilinear_reverse, fit_bilinear_forward}
use Rattle.fit.specs.Shepards.{fit_shepards}

-- each method's maker
unfoldable pub made : ℕ → Vector → ℕ → ℕ → Float → Float → Float → Fitted
made method values count pairs order w h =
    cond (method == Method.affine_code) (fit_affine values pairs)
    (cond (method == Method.affine_projection_code) (fit_affine_projection values)
    (cond (method == Method.perspective_code) (fit_perspective values pairs)
    (cond (method == Method.perspective_projection_code) (fit_perspective_projection values w h)
    (cond (method == Method.bilinear_reverse_code) (fit_bilinear_reverse values pairs)
    (cond (method == Method.bilinear_forward_code) (fit_bilinear_forward values pairs)
    (cond (method == Method.polynomial_code) (fit_polynomial values pairs order)
    (cond (method == Method.barrel_code) (fit_barrel values count w h barrel_kind)
    (cond (method == Method.barrel_inverse_code) (fit_barrel values count w h barrel_inverse_kind)
    (fit_shepards values pairs)))))))))

-- for a picture of this width and height
unfoldable pub build : ℕ → List ℕ → ℕ → ℕ → Fitted
unfolding made
build method bytes width height =
    cond (arguments_refusal method bytes == 0)
    (made method (values_of bytes) (count_of bytes) (pairs_of method bytes) (order_of bytes) (of_int binary64 (pos width))
    (of_int binary64 (pos height)))
    (refused (arguments_refusal method bytes))
