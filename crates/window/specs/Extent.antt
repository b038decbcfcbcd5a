-- One side of the window, in whole numbers: the offset at which it starts and its number of pixels, or that one of them
-- is beyond the limits of refusal 9. Specification 6. Assumes nothing.
use Rattle.std.specs.Prelude.{ℕ, zero, suc, Bool, cond, ◌&&◌, ℤ, pos, negsuc, ◌-ℤ◌, nat_le, nat_lt, unsigned_abs, Float, Option, Some, None}
use Rattle.std.specs.Float.Ieee.Scale.{finite}
use Rattle.exact.specs.Double.{◌⊕◌, ◌⊖◌}
pub use Rattle.exact.specs.Double.{half}
use Rattle.exact.specs.Limits.{largest_side, largest_offset}
use Rattle.number.specs.Floor.{floorℤ}
use Rattle.window.specs.declared.extent.Extent.{Extent}
use Rattle.window.specs.Ceil.{ceilℤ}

unfoldable pub good_offset : ℤ → Bool
good_offset z = nat_le (unsigned_abs z) largest_offset

unfoldable pub good_length : ℕ → Bool
good_length n = nat_lt 0 n && nat_le n largest_side

abbrev pub side : ℤ → ℕ → Extent
side from length = record { from = from; length = length }

unfoldable pub held : ℤ → ℕ → Option Extent
held from length = cond (good_offset from && good_length length) (Some (side from length)) None

-- ---- from the edges of a box

-- a count of at least 1
unfoldable pub at_least_one : ℤ → ℕ
at_least_one (pos zero) = 1
at_least_one (pos (suc n)) = suc n
at_least_one (negsuc n) = 1

-- from..to
unfoldable pub from_to : ℤ → ℤ → Option Extent
unfolding held at_least_one
from_to from to = held from (at_least_one (to -ℤ from))

-- from floor(low - 0.5) to ceil(high + 0.5), where both edges are numbers
unfoldable pub extent_of : Float → Float → Option Extent
unfolding from_to
extent_of low high = cond (finite low && finite high) (from_to (floorℤ (low ⊖ half)) (ceilℤ (high ⊕ half))) None
