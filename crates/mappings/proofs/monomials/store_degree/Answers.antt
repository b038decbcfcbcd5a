-- A turn of the loop is one of the definition's.
use Rattle.std.proofs.Common.{rules}
use Rattle.exact.proofs.Loop.{up_to_none, up_to_next, up_to_last}
use Rattle.mappings.specs.Monomials.{store_term}
use Rattle.mappings.proofs.monomials.store_degree.Goals as goal

pub loop-j-init : goal.loop-j-init
loop-j-init c = up_to_none _ _ _

pub loop-j-preserved : goal.loop-j-preserved
unfolding store_term
loop-j-preserved c = up_to_next _ _ _ _ (search rules) c.loop-j.invariant

pub returns : goal.returns
returns c = up_to_last _ _ _ _ _ (search rules) (search rules) c.loop-j.invariant
