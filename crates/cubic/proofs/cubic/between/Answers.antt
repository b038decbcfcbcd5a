-- `cubic::cubic::between` meets its contract: the four tests are the definition's.
use Rattle.cubic.specs.Cubic.{between}
use Rattle.cubic.proofs.cubic.between.Goals as goal

pub returns : goal.returns
unfolding between
returns c = rw (c.outer.ensures, c.outer-2.ensures)
