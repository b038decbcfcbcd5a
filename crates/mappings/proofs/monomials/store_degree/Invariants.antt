-- The loop's invariant: the array is the definition's after j turns.
use Rattle.std.proofs.Common.{◌≡◌}
use Rattle.exact.specs.Loop.{up_to}
use Rattle.mappings.specs.Monomials.{store_term}
use Rattle.mappings.proofs.monomials.store_degree.Given as goal

abbrev pub invariant-loop-j : goal.invariant-loop-j
invariant-loop-j l = l.m ≡ up_to (store_term l.px l.py l.start l.total) 0 l.j l.initial.m
