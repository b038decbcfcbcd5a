-- Affine: u = m0 x + m1 y + m2, v = m3 x + m4 y + m5. Specification 7. Assumes nothing.
use Rattle.std.specs.Prelude.{Float}
use Rattle.exact.specs.Sums.{linear}
use Rattle.exact.specs.Vector.{Vector, at}
use Rattle.point.specs.declared.point.Point.{Point}
use Rattle.point.specs.Point.{point}

abbrev pub affine : Vector → Float → Float → Point
affine m x y = point (linear (at m 0) (at m 1) (at m 2) x y) (linear (at m 3) (at m 4) (at m 5) x y)
