-- What `Catrom` and `Spline` weigh along one side. Assumes nothing.
use Rattle.std.specs.Prelude.{ℕ, cond, List, eqb, Float}
use Rattle.cubic.specs.Cubic.{catrom, spline}
use Rattle.taps.specs.Interpolation.{catrom_code}

-- by the interpolation's code, one of the two
unfoldable pub kernel_of : ℕ → Float → List Float
kernel_of code t = cond (eqb code catrom_code) (catrom t) (spline t)
