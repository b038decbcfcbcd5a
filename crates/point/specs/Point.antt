-- A source point: u and v in the picture, and whether they can be used. Where a mapping has none, u and v are NaNs,
-- which can't be used: so every point is `point` of its own coordinates, and keeping these is keeping the point.
-- Specification 7. Assumes nothing.
use Rattle.std.specs.Prelude.{◌≡◌, Bool, false, cond, ◌&&◌, Float}
use Rattle.std.specs.Float.{nan}
use Rattle.exact.specs.Double.{usable_limit}
use Rattle.number.specs.Magnitude.{within}
use Rattle.point.specs.declared.point.Point.{Point}

-- neither is a NaN or above 2^30 in magnitude
unfoldable pub usable : Float → Float → Bool
usable u v = within usable_limit u && within usable_limit v

abbrev pub point : Float → Float → Point
point u v = record { u = u; v = v; usable = usable u v }

abbrev pub none : Point
none = record { u = nan; v = nan; usable = false }

-- none where the test holds
abbrev pub point_unless : Bool → Float → Float → Point
point_unless t u v = cond t none (point u v)

-- what every mapping gives: the point of its own coordinates
pub record Whole (p : Point) : Type 0 where
  pub whole : p ≡ point p.u p.v
