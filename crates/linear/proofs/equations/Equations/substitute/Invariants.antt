-- The loop's invariant: x is the definition's with the rows from i on substituted.
use Rattle.std.proofs.Common.{◌≡◌}
use Rattle.exact.specs.Loop.{down_to}
use Rattle.linear.specs.Solve.{substitute}
use Rattle.linear.specs.Matrix.{zeros}
use Rattle.linear.proofs.equations.Equations.substitute.Given as goal

abbrev pub invariant-loop-i : goal.invariant-loop-i
invariant-loop-i l = l.x ≡ down_to (substitute l.self.n (l.self.a, l.self.b)) l.i l.self.n zeros
