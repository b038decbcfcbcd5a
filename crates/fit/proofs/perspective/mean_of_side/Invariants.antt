-- The loop's invariant: the sum is the definition's after j pairs.
use Rattle.std.proofs.Common.{◌≡◌}
use Rattle.exact.specs.Loop.{up_to}
use Rattle.linear.specs.Matrix.{nought}
use Rattle.fit.specs.Perspective.{add_part}
use Rattle.fit.proofs.perspective.mean_of_side.Given as goal

abbrev pub invariant-loop-j : goal.invariant-loop-j
invariant-loop-j l = l.sum ≡ up_to (add_part l.pairs.values.now l.pairs.count l.side) 0 l.j nought
