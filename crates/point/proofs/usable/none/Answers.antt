-- `point::usable::none` meets its contract: 0 over 0 is a NaN. Assumes nothing.
use mathlib.Core.Path.{refl}
use lib.Ieee.{div, of_bits}
use Rattle.point.proofs.usable.none.Goals as goal

pub returns : goal.returns
unfolding div of_bits
returns c = refl
