-- The points of Barrel and BarrelInverse, and the steps to them, each for a whole span: the offsets across with the
-- squared radii, the radii, the points from both. Assumes nothing.
use Rattle.std.specs.Prelude.{◌≡◌, List, ℕ, ◌+◌, ◌<◌, Float}
use Rattle.exact.specs.Vector.{Vector, at}
use Rattle.point.specs.declared.point.Point.{Point}
use Rattle.inverse.specs.Barrel.{across, radius_squared, ByRadius}
use Rattle.fast_points.specs.Points.{pixel_middle}

-- the point that a rule gives from the offset and the radius of the pixel at a, y
abbrev pub ByRadiusAt : (Float → Float → Float → Point → Type 0) → Vector → Float → Float → Point → Type 0
ByRadiusAt rule c y a p = ByRadius rule c a y p

-- the first n of two lists: the offsets across and the squared radii of the pixels from column `first` on, of a
-- window at x; dy is the offset down
pub record RadiiSquared (c : Vector) (x dy : Float) (first n : ℕ) (ds ss : List Float) : Type 0 where
  pub each : (k : ℕ) → k < n
      → (at ds k ≡ across c (pixel_middle (first + k) x))
      × (at ss k ≡ radius_squared (across c (pixel_middle (first + k) x)) dy)

-- the first n of a list: f of another's
pub record EachBy (f : Float → Float) (n : ℕ) (xs ys : List Float) : Type 0 where
  pub each : (k : ℕ) → k < n → at ys k ≡ f (at xs k)
