-- The loop's invariant: the equations are the definition's after i turns, in as many unknowns.
use Rattle.std.proofs.Common.{◌≡◌}
use Rattle.exact.specs.Loop.{up_to}
use Rattle.linear.specs.Normal.{add_term}
use Rattle.linear.proofs.equations.Equations.add_row.Given as goal

abbrev pub invariant-loop-i : goal.invariant-loop-i
invariant-loop-i l = record {
  system : (l.self.a, l.self.b)
      ≡ up_to (add_term l.row l.y l.initial.self.n) 0 l.i (l.initial.self.a, l.initial.self.b);
  unknowns : l.self.n ≡ l.initial.self.n;
}
