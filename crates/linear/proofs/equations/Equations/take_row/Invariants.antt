-- The loop's invariant: the matrix is the definition's after the columns passed, and the rest is as it was.
use Rattle.std.proofs.Common.{◌≡◌}
use Rattle.exact.specs.Loop.{up_to}
use Rattle.linear.specs.Eliminate.{take_term}
use Rattle.linear.proofs.equations.Equations.take_row.Given as goal

abbrev pub invariant-loop-k : goal.invariant-loop-k
invariant-loop-k l = record {
  matrix : l.self.a ≡ up_to (take_term l.f l.col l.row) l.col l.k l.initial.self.a;
  sides : l.self.b ≡ l.initial.self.b;
  unknowns : l.self.n ≡ l.initial.self.n;
}
