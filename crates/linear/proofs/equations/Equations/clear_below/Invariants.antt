-- The loop's invariant: the equations are the definition's after the rows passed, in as many unknowns.
use Rattle.std.proofs.Common.{◌≡◌, ◌+◌}
use Rattle.exact.specs.Loop.{up_to}
use Rattle.linear.specs.Eliminate.{clear_row}
use Rattle.linear.proofs.equations.Equations.clear_below.Given as goal

abbrev pub invariant-loop-row : goal.invariant-loop-row
invariant-loop-row l = record {
  system : (l.self.a, l.self.b)
      ≡ up_to (clear_row l.initial.self.n l.col) (l.col + 1) l.row (l.initial.self.a, l.initial.self.b);
  unknowns : l.self.n ≡ l.initial.self.n;
}
