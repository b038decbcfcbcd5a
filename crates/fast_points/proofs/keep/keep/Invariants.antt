-- `fast_points::keep::keep` meets its contract. The loop's invariant: the first k points are there. Assumes nothing.
use Prim.Native.Nat.{◌-◌, ◌≤◌}
use Rattle.fast_points.proofs.FillLaws.{Keeping}
use Rattle.fast_points.proofs.keep.keep.Given as goal

abbrev pub invariant-loop-k : goal.invariant-loop-k
invariant-loop-k g l = Keeping (goal.F-post g l.rule) l.k l.us l.vs × (l.k ≤ l.n)

abbrev pub decreases-loop-k : goal.decreases-loop-k
decreases-loop-k g l = l.n - l.k
