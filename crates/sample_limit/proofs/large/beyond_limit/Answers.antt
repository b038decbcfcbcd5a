-- `beyond` is its definition: the test of the pattern, turned round.
use mathlib.Core.Path.{ap}
use mathlib.Core.Bool.{not}
use Rattle.sample_limit.proofs.large.beyond_limit.Goals as goal

pub returns : goal.returns
returns c = ap not c.within.ensures
