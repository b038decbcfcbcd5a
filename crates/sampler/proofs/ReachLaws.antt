-- A source point that can be used, half a pixel back, is within the sampler's reach. Assumes nothing.
use mathlib.Core.Path.{◌≡◌, subst⁻¹}
use mathlib.Core.Bool.{Bool, true, false, ◌&&◌, false≢true}
use lib.Dec.{T}
use lib.Ieee.{Float}
use Rattle.exact.specs.Double.{◌⊖◌, usable_limit}
use Rattle.exact.specs.Warp.{half}
use Rattle.number.specs.Magnitude.{within}
use Rattle.point.specs.Point.{usable}
use Rattle.taps.specs.Cell.{Reached}
use Rattle.taps.proofs.CellFloor.{usable_reached}

both : (a b : Bool) → a && b ≡ true → T a × T b
both true b h = (tt, subst⁻¹ T h tt)
both false b h = absurd (false≢true h)

pub both_reached : (u v : Float) → usable u v ≡ true → Reached (u ⊖ half) × Reached (v ⊖ half)
unfolding usable
both_reached u v h = let p = both (within usable_limit u) (within usable_limit v) h in
    (usable_reached u p.0, usable_reached v p.1)
