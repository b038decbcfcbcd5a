-- `point::usable::point` meets its contract by what `usable` ensures. Assumes nothing.
use Rattle.point.proofs.usable.point.Goals as goal

pub returns : goal.returns
returns c = rw c.usable.ensures
