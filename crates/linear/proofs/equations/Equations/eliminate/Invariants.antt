-- The loop's invariant: the columns passed all gave equations, and these are as they stand.
use Rattle.std.proofs.Common.{◌≡◌}
use Rattle.std.specs.Prelude.{Some}
use Rattle.exact.specs.Loop.{up_to}
use Rattle.linear.specs.Eliminate.{column_or}
use Rattle.linear.proofs.equations.Equations.eliminate.Given as goal

abbrev pub invariant-loop-col : goal.invariant-loop-col
invariant-loop-col l = record {
  system : Some (l.self.a, l.self.b)
      ≡ up_to (column_or l.initial.self.n) 0 l.col (Some (l.initial.self.a, l.initial.self.b));
  unknowns : l.self.n ≡ l.initial.self.n;
}
