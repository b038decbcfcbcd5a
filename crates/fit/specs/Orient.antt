-- `orient`: all nine numbers of a homography negated where its denominator at (x, y) is below 0. A denominator that is
-- a NaN leaves them. Specification 5.2. Assumes nothing.
use Rattle.std.specs.Prelude.{cond, [], ◌∷◌, Float}
use Rattle.std.specs.Float.Ieee.{lt, neg}
use Rattle.exact.specs.Double.{◌⊕◌, ◌⊗◌}
use Rattle.exact.specs.Vector.{Vector, at}
use Rattle.linear.specs.Matrix.{nought}

abbrev pub denominator : Vector → Float → Float → Float
denominator m x y = at m 6 ⊗ x ⊕ at m 7 ⊗ y ⊕ at m 8

abbrev pub negated : Vector → Vector
negated m =
    neg (at m 0)
    ∷ neg (at m 1)
    ∷ neg (at m 2)
    ∷ neg (at m 3)
    ∷ neg (at m 4)
    ∷ neg (at m 5)
    ∷ neg (at m 6)
    ∷ neg (at m 7)
    ∷ neg (at m 8)
    ∷ []

unfoldable pub orient : Vector → Float → Float → Vector
orient m x y = cond (lt (denominator m x y) nought) (negated m) m
