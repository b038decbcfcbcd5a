-- `fast_points::barrels::guesses` meets its contract. The loop's invariant: the first k guesses are there. Assumes
-- nothing.
use Rattle.number.specs.Root.{guess}
use Rattle.fast_points.proofs.BarrelLaws.{Mapping}
use Prim.Native.Nat.{◌-◌, ◌≤◌}
use Rattle.fast_points.proofs.barrels.guesses.Given as goal

abbrev pub invariant-loop-k : goal.invariant-loop-k
invariant-loop-k l = Mapping guess l.k l.ss l.gs × (l.k ≤ l.n)

abbrev pub decreases-loop-k : goal.decreases-loop-k
decreases-loop-k l = l.n - l.k
