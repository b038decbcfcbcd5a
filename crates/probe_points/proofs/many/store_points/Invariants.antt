-- `probe_points::many::store_points` meets its contract. The loop's invariant: k points are written, and the bytes are
-- as many as before. Assumes nothing.
use Rattle.probe_points.specs.Points.{store_next}
use Rattle.exact.specs.Loop.{up_to}
use lib.ListN.{length}
use mathlib.Core.Path.{◌≡◌}
use Prim.Native.Nat.{◌-◌, ◌≤◌}
use Rattle.probe_points.proofs.many.store_points.Given as goal

abbrev pub invariant-loop-k : goal.invariant-loop-k
invariant-loop-k l = (l.out ≡ up_to (store_next l.mapping l.points) 0 l.k l.initial.out)
    × ((length l.out ≡ length l.initial.out) × (l.k ≤ l.n))

abbrev pub decreases-loop-k : goal.decreases-loop-k
decreases-loop-k l = l.n - l.k
