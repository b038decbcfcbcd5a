-- `probe_points::rows::store_kept` meets its contract. The loop's invariant: the columns before i are written, and the
-- bytes are as many as before. Assumes nothing.
use mathlib.Core.Path.{◌≡◌}
use Prim.Native.Nat.{◌+◌, ◌-◌, ◌≤◌}
use lib.ListN.{length}
use Rattle.exact.specs.Loop.{up_to}
use Rattle.probe_points.specs.Rows.{store_kept}
use Rattle.probe_points.proofs.rows.store_kept.Given as goal

abbrev pub invariant-loop-i : goal.invariant-loop-i
invariant-loop-i l = (l.out ≡ up_to (store_kept l.us l.vs l.first l.place) l.first l.i l.initial.out)
    × ((length l.out ≡ length l.initial.out) × ((l.first ≤ l.i) × (l.i ≤ l.first + l.n)))

abbrev pub decreases-loop-i : goal.decreases-loop-i
decreases-loop-i l = l.first + l.n - l.i
