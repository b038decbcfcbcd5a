-- The loop's invariant: the matrix is the definition's after k turns, and the rest is as it was.
use Rattle.std.proofs.Common.{◌≡◌}
use Rattle.exact.specs.Loop.{up_to}
use Rattle.linear.specs.Normal.{add_product}
use Rattle.linear.proofs.equations.Equations.add_products.Given as goal

abbrev pub invariant-loop-k : goal.invariant-loop-k
invariant-loop-k l = record {
  matrix : l.self.a ≡ up_to (add_product l.row l.first l.i) 0 l.k l.initial.self.a;
  sides : l.self.b ≡ l.initial.self.b;
  unknowns : l.self.n ≡ l.initial.self.n;
}
