-- `point::usable::unless` meets its contract: 0 over 0 is a NaN. Assumes nothing.
use lib.Ieee.{div, of_bits}
use Rattle.std.proofs.Common.{rules}
use Rattle.point.proofs.usable.unless.Goals as goal

pub returns-then-none : goal.returns-then-none
unfolding div of_bits
returns-then-none c = search rules
