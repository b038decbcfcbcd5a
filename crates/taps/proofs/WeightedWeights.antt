-- The weights that the interpolations hand over are at most 1 in magnitude: 1 itself for the means, those of `Bilinear`
-- since they are from 0 to 1. (Those of the cubic kernels: CubicBounds.) Provides: `one_bounded`, `unit_bounded`,
-- `bilinear_bounded`. Assumes nothing.
use lib.Dec.{lit≤}
use lib.Ieee.{Float, of_bits}
use Rattle.exact.specs.Fraction.{frac, value, abs_f}
use Rattle.exact.specs.Weighted.{w00, w10, w01, w11, Unit32}
use Rattle.exact.proofs.Products.{unit_rest}
use Rattle.exact.proofs.NearProducts.{abs_unit}
use Rattle.exact.proofs.Samples.{sample_own, sample_rest, sample_mul}
use Rattle.picture.specs.Colour.{one}
use Rattle.taps.specs.Weighted.{Bounded}

pub one_bounded : Bounded (frac 1 1) one
unfolding of_bits abs_f
one_bounded = record { number = tt; size = record { le = lit≤ tt } }

pub unit_bounded : (w : Float) → Unit32 w → Bounded (frac 1 1) w
unit_bounded w u = record { number = u.number; size = abs_unit (value w) u.unit }

pub bilinear_bounded : (tx ty : Float) → Unit32 tx → Unit32 ty
    → Bounded (frac 1 1) (w00 tx ty)
    × (Bounded (frac 1 1) (w10 tx ty) × (Bounded (frac 1 1) (w01 tx ty) × Bounded (frac 1 1) (w11 tx ty)))
bilinear_bounded tx ty x y = (
  unit_bounded (w00 tx ty) (sample_mul 1 1 (unit_rest x.unit) (sample_rest tx x) (sample_rest ty y)).is,
  (
    unit_bounded (w10 tx ty) (sample_mul 0 1 x.unit (sample_own x) (sample_rest ty y)).is,
    (
      unit_bounded (w01 tx ty) (sample_mul 1 0 (unit_rest x.unit) (sample_rest tx x) (sample_own y)).is,
      unit_bounded (w11 tx ty) (sample_mul 0 0 x.unit (sample_own x) (sample_own y)).is,
    ),
  ),
)
