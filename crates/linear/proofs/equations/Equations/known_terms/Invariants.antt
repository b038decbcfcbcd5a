-- The loop's invariant: the sum is the definition's after the terms passed.
use Rattle.std.proofs.Common.{◌≡◌, ◌+◌}
use Rattle.exact.specs.Loop.{up_to}
use Rattle.linear.specs.Matrix.{nought}
use Rattle.linear.specs.Solve.{add_known}
use Rattle.linear.proofs.equations.Equations.known_terms.Given as goal

abbrev pub invariant-loop-k : goal.invariant-loop-k
invariant-loop-k l = l.sum ≡ up_to (add_known l.self.a l.x l.i) (l.i + 1) l.k nought
