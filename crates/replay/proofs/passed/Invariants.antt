-- `replay::passed` meets its contract: before turn k at most k jobs have passed.
use Rattle.std.proofs.Common.{◌≤◌}
use Rattle.replay.proofs.passed.Given as goal

abbrev pub invariant-loop-k : goal.invariant-loop-k
invariant-loop-k l = l.n ≤ l.k
