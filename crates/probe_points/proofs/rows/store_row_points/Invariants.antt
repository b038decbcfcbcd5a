-- `probe_points::rows::store_row_points` meets its contract. The loop's invariant: the columns before i are written,
-- and the bytes are as many as before. Assumes nothing.
use mathlib.Core.Path.{◌≡◌}
use Prim.Native.Nat.{◌-◌, ◌≤◌}
use lib.ListN.{length}
use Rattle.exact.specs.Loop.{up_to}
use Rattle.probe_points.specs.Rows.{store_column}
use Rattle.probe_points.proofs.rows.store_row_points.Given as goal

abbrev pub invariant-loop-i : goal.invariant-loop-i
invariant-loop-i l = (l.out ≡ up_to (store_column l.frame.mapping.now l.frame.x l.frame.y l.j l.place) 0 l.i l.initial.out)
    × ((length l.out ≡ length l.initial.out) × (l.i ≤ l.width))

abbrev pub decreases-loop-i : goal.decreases-loop-i
decreases-loop-i l = l.width - l.i
