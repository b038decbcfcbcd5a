-- `probe_points::many::wrong_lengths` meets its contract: the tests are the definition's. Assumes nothing.
use mathlib.Core.Path.{refl}
use Rattle.probe_points.specs.Points.{wrong_lengths}
use Rattle.probe_points.proofs.many.wrong_lengths.Goals as goal

pub returns : goal.returns
unfolding wrong_lengths
returns c = refl
