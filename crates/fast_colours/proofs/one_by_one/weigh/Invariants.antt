-- `fast_colours::one_by_one::weigh` meets its contract. The loop's invariant: the first k points are weighed. Assumes
-- nothing.
use Prim.Native.Nat.{◌-◌, ◌≤◌}
use Rattle.fast_colours.proofs.InsideSpanLaws.{Weighing}
use Rattle.fast_colours.proofs.one_by_one.weigh.Given as goal

abbrev pub invariant-loop-k : goal.invariant-loop-k
invariant-loop-k l = Weighing l.k l.xs l.ys l.w × (l.k ≤ l.n)

abbrev pub decreases-loop-k : goal.decreases-loop-k
decreases-loop-k l = l.n - l.k
