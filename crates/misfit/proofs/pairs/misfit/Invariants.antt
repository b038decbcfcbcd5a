-- The loop's invariant: `worst` is the definition's after j pairs.
use Rattle.std.proofs.Common.{◌≡◌}
use Rattle.exact.specs.Loop.{up_to}
use Rattle.linear.specs.Matrix.{nought}
use Rattle.misfit.specs.Misfit.{missed_at}
use Rattle.misfit.proofs.pairs.misfit.Given as goal

abbrev pub invariant-loop-j : goal.invariant-loop-j
invariant-loop-j l = l.worst
    ≡ up_to (missed_at l.mapping.kind l.mapping.order l.mapping.count l.mapping.coef l.pairs.values.now l.pairs.skip)
    0 l.j nought
