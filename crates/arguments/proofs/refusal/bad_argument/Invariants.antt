-- The loop's invariant: every number passed is good.
use Rattle.std.proofs.Common.{◌≡◌, true}
use Rattle.exact.specs.Loop.{up_to}
use Rattle.arguments.specs.Refusal.{still_good}
use Rattle.arguments.proofs.refusal.bad_argument.Given as goal

abbrev pub invariant-loop-k : goal.invariant-loop-k
invariant-loop-k l = true ≡ up_to (still_good l.arguments) 0 l.k true
