-- Perspective: two sums over a third, the denominator; no point where that is at most 1e-12. One that is a NaN is not,
-- and goes on. Specification 7. Assumes nothing.
use Rattle.std.specs.Prelude.{cond, Float}
use Rattle.std.specs.Float.Ieee.{le}
use Rattle.exact.specs.Double.{◌⊘◌, least_divisor}
use Rattle.exact.specs.Sums.{linear}
use Rattle.exact.specs.Vector.{Vector, at}
use Rattle.point.specs.declared.point.Point.{Point}
use Rattle.point.specs.Point.{point, none}

abbrev pub wq : Vector → Float → Float → Float
wq m x y = linear (at m 6) (at m 7) (at m 8) x y

unfoldable pub perspective : Vector → Float → Float → Point
perspective m x y =
    cond (le (wq m x y) least_divisor)
    none
    (point (linear (at m 0) (at m 1) (at m 2) x y ⊘ wq m x y) (linear (at m 3) (at m 4) (at m 5) x y ⊘ wq m x y))
