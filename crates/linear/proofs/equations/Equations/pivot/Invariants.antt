-- The loop's invariant: the best row is the definition's after the rows passed, and it is a row among the n.
use Rattle.std.proofs.Common.{◌≡◌, ◌+◌, ◌<◌}
use Rattle.exact.specs.Loop.{up_to}
use Rattle.linear.specs.Eliminate.{better}
use Rattle.linear.proofs.equations.Equations.pivot.Given as goal

abbrev pub invariant-loop-row : goal.invariant-loop-row
invariant-loop-row l = record {
  best : l.best ≡ up_to (better l.self.a l.col) (l.col + 1) l.row l.col;
  inside : l.best < l.self.n;
}
