-- `fast_points::barrels::radii_squared` meets its contract. The loop's invariant: the first k offsets and squares are
-- there. Assumes nothing.
use Rattle.fast_points.proofs.BarrelLaws.{Squaring}
use Prim.Native.Nat.{◌-◌, ◌≤◌}
use Rattle.fast_points.proofs.barrels.radii_squared.Given as goal

abbrev pub invariant-loop-k : goal.invariant-loop-k
invariant-loop-k l = Squaring l.coef l.x l.dy l.first l.k l.ds l.ss × (l.k ≤ l.n)

abbrev pub decreases-loop-k : goal.decreases-loop-k
decreases-loop-k l = l.n - l.k
