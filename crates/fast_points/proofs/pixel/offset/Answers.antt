-- `fast_points::pixel::offset` meets its contract: the offset is a whole number that an f64 holds. The machine reads it
-- back from its bits, which is the offset, since it fits.
use mathlib.Core.Path.{sym, subst}
use native.Mathlib.Nat.{le_trans}
use lib.Dec.{T, lit≤}
use lib.IntN.{ℤ}
use lib.Ieee.{binary64, in_float}
use mir.Syntax.{w64}
use mir.ValLaws.{to_z-of_z}
use Rattle.exact.proofs.Integer.{counted}
use Rattle.fast_points.proofs.pixel.offset.Goals as goal

pub int_to_float-result : goal.int_to_float-result
int_to_float-result c =
    subst (λ (z : ℤ). T (in_float binary64 z)) (sym (to_z-of_z w64 c.args.x c.ranges.x))
    (counted binary64 c.args.x (le_trans c.requires (lit≤ tt)))
