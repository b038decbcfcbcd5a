-- The weights of an interpolation's taps at the fractions tx and ty, in the taps' order; those past its count are not
-- used. Specification 9. Assumes nothing.
use Rattle.std.specs.Prelude.{ℕ, ◌/◌, ◌%◌, List, [], ◌∷◌, get_or, Float}
use Rattle.exact.specs.Single.{◌⊗◌}
use Rattle.exact.specs.Weighted.{w00, w10, w01, w11, weight_sum}
use Rattle.picture.specs.Colour.{zero, one}
use Rattle.cubic.specs.Cubic.{catrom, spline}
use Rattle.taps.specs.declared.interpolation.Interpolation.{Interpolation}
use Rattle.taps.specs.declared.interpolation.Interpolation.TheVariants.{
  Integer,
  Nearest,
  Average,
  Average9,
  Average16,
  Bilinear,
  Catrom,
  Spline,
  Background,
}
use Rattle.taps.specs.declared.weights.BilinearWeights.{BilinearWeights}
use Rattle.taps.specs.Taps.{sixteen}
use Rattle.taps.specs.Weighted.{weight_at}

-- of the four taps of `Bilinear`
abbrev pub four_weights : Float → Float → List Float
four_weights tx ty = w00 tx ty ∷ w10 tx ty ∷ w01 tx ty ∷ w11 tx ty ∷ []

-- and their sum
abbrev pub bilinear_weights : Float → Float → BilinearWeights
bilinear_weights tx ty = record {
  w00 = w00 tx ty;
  w10 = w10 tx ty;
  w01 = w01 tx ty;
  w11 = w11 tx ty;
  sum = weight_sum tx ty;
}

-- wx[n] * wy[m], rows outer
abbrev pub products : List Float → List Float → List Float
products wx wy = sixteen (λ (k : ℕ). weight_at wx (k % 4) ⊗ weight_at wy (k / 4))

abbrev pub alike_weights : List Float
alike_weights = sixteen (λ (k : ℕ). one)

abbrev pub weights : Interpolation → Float → Float → List Float
weights Integer tx ty = alike_weights
weights Nearest tx ty = alike_weights
weights Average tx ty = alike_weights
weights Average9 tx ty = alike_weights
weights Average16 tx ty = alike_weights
weights Bilinear tx ty = sixteen (λ (k : ℕ). get_or (four_weights tx ty) k zero)
weights Catrom tx ty = products (catrom tx) (catrom ty)
weights Spline tx ty = products (spline tx) (spline ty)
weights Background tx ty = alike_weights
