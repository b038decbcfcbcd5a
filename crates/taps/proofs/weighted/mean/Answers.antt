-- `taps::weighted::mean` meets its contract: four quotients.
use Rattle.taps.specs.Weighted.{mean}
use Rattle.taps.proofs.weighted.mean.Goals as goal

pub returns : goal.returns
unfolding mean
returns c = rw (
  c.quotient-4.ensures,
  c.quotient-3.ensures,
  c.quotient-2.ensures,
  c.quotient.ensures,
)
