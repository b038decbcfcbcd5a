-- The loop's invariant: the array holds the monomials below degree `total`.
use Rattle.mappings.proofs.MonomialsLaws.{Filled}
use Rattle.mappings.proofs.monomials.up_to_degree.Given as goal

abbrev pub invariant-loop-total : goal.invariant-loop-total
invariant-loop-total l = Filled l.x l.y l.m l.start l.total
