-- `fast_colours::broad::broad` meets its contract: four quotients of the sums.
use Rattle.fast_colours.proofs.FourLaws.{four_broad}
use Rattle.fast_colours.proofs.broad.broad.Goals as goal

pub returns : goal.returns
returns c = rw c.four-t.ensures (four_broad _ _ _ _ _ _ _ _ _)
