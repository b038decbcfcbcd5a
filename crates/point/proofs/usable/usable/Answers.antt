-- `point::usable::usable` meets its contract by what `abs` ensures, twice. Assumes nothing.
use Rattle.number.specs.Magnitude.{within}
use Rattle.point.specs.Point.{usable}
use Rattle.point.proofs.usable.usable.Goals as goal

pub returns : goal.returns
unfolding usable within
returns c = rw (← c.abs-2.ensures, ← c.abs.ensures)
