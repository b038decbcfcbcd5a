-- A turn of the loop is one of the definition's.
use Rattle.std.proofs.Common.{rules}
use Rattle.exact.proofs.Loop.{up_to_none, up_to_next}
use Rattle.linear.specs.Solve.{add_known}
use Rattle.linear.proofs.equations.Equations.known_terms.Goals as goal

pub loop-k-init : goal.loop-k-init
loop-k-init c = up_to_none _ _ _

pub loop-k-preserved : goal.loop-k-preserved
unfolding add_known
loop-k-preserved c = up_to_next _ _ _ _ (search rules) c.loop-k.invariant
