-- A turn is one of the definition's, and the loop makes as many.
use Rattle.std.proofs.Common.{rules}
use Rattle.exact.proofs.Loop.{up_to_none, up_to_next, up_to_last}
use Rattle.misfit.specs.Misfit.{missed_at, misfit}
use Rattle.misfit.proofs.pairs.misfit.Goals as goal

pub loop-j-init : goal.loop-j-init
loop-j-init c = up_to_none _ _ _

pub loop-j-preserved : goal.loop-j-preserved
unfolding missed_at
loop-j-preserved c = rw (c.missed-worst.ensures, c.at.ensures)
    (up_to_next _ _ _ _ (search rules) c.loop-j.invariant)

pub returns : goal.returns
unfolding misfit
returns c = up_to_last _ _ _ _ _ (search rules) (search rules) c.loop-j.invariant
