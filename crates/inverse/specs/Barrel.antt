-- Barrel and BarrelInverse: the offset from the centre times a factor that depends on the radius. The coefficients are
-- the factor's four, the centre's two and the radius that counts as 1. Specification 7. Assumes nothing.
use Rattle.std.specs.Prelude.{cond, Float}
use Rattle.std.specs.Float.Ieee.{lt}
use Rattle.exact.specs.Double.{◌⊕◌, ◌⊖◌, ◌⊗◌, ◌⊘◌, least_divisor, one}
use Rattle.number.specs.Magnitude.{abs}
use Rattle.number.specs.Root.{root}
use Rattle.exact.specs.Vector.{Vector, at}
use Rattle.point.specs.declared.point.Point.{Point}
use Rattle.point.specs.Point.{point, none}

-- dx = (x - cx) / norm, dy = (y - cy) / norm
abbrev pub from_centre : Float → Float → Float → Float
from_centre at centre norm = (at ⊖ centre) ⊘ norm

abbrev pub across : Vector → Float → Float
across c x = from_centre x (at c 4) (at c 6)

abbrev pub down : Vector → Float → Float
down c y = from_centre y (at c 5) (at c 6)

-- the squared radius
abbrev pub radius_squared : Float → Float → Float
radius_squared dx dy = dx ⊗ dx ⊕ dy ⊗ dy

-- the factor at the radius r
abbrev pub factor : Vector → Float → Float
factor c r = at c 0 ⊗ r ⊗ r ⊗ r ⊕ at c 1 ⊗ r ⊗ r ⊕ at c 2 ⊗ r ⊕ at c 3

-- the offset times s, from the centre
abbrev pub scaled : Vector → Float → Float → Float → Point
scaled c dx dy s = point (at c 4 ⊕ dx ⊗ s ⊗ at c 6) (at c 5 ⊕ dy ⊗ s ⊗ at c 6)

-- ---- from the offset and the radius on
unfoldable pub barrel_from : Vector → Float → Float → Float → Point
barrel_from c dy dx r = scaled c dx dy (factor c r)

-- no point where the factor is too small
unfoldable pub barrel_inverse_from : Vector → Float → Float → Float → Point
barrel_inverse_from c dy dx r =
    cond (lt (abs (factor c r)) least_divisor)
    none
    (scaled c dx dy (one ⊘ factor c r))

-- ---- from the output point on

-- the point that a rule gives from the offset and the radius
abbrev pub ByRadius : (Float → Float → Float → Point → Type 0) → Vector → Float → Float → Point → Type 0
ByRadius rule c x y p = rule (down c y) (across c x) (root (radius_squared (across c x) (down c y))) p

abbrev pub barrel : Vector → Float → Float → Point
barrel c x y = barrel_from c (down c y) (across c x) (root (radius_squared (across c x) (down c y)))

abbrev pub barrel_inverse : Vector → Float → Float → Point
barrel_inverse c x y = barrel_inverse_from c (down c y) (across c x) (root (radius_squared (across c x) (down c y)))
