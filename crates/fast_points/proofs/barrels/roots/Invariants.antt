-- `fast_points::barrels::roots` meets its contract. The loop's invariant: the first k roots are there. Assumes nothing.
use Rattle.number.specs.Root.{root}
use Rattle.fast_points.proofs.BarrelLaws.{Mapping}
use Prim.Native.Nat.{◌-◌, ◌≤◌}
use Rattle.fast_points.proofs.barrels.roots.Given as goal

abbrev pub invariant-loop-k : goal.invariant-loop-k
invariant-loop-k l = Mapping root l.k l.ss l.rs × (l.k ≤ l.n)

abbrev pub decreases-loop-k : goal.decreases-loop-k
decreases-loop-k l = l.n - l.k
