-- `probe_points::rows::store_rows_points` meets its contract. The loop's invariant: r rows are written, and the bytes
-- are as many as before. Assumes nothing.
use mathlib.Core.Path.{◌≡◌}
use Prim.Native.Nat.{◌-◌, ◌≤◌}
use lib.ListN.{length}
use Rattle.exact.specs.Loop.{up_to}
use Rattle.probe_points.specs.Rows.{store_row}
use Rattle.probe_points.proofs.rows.store_rows_points.Given as goal

abbrev pub invariant-loop-r : goal.invariant-loop-r
invariant-loop-r l = (l.out ≡ up_to (store_row l.frame.mapping.now l.frame.x l.frame.y l.width l.first) 0 l.r l.initial.out)
    × ((length l.out ≡ length l.initial.out) × (l.r ≤ l.rows))

abbrev pub decreases-loop-r : goal.decreases-loop-r
decreases-loop-r l = l.rows - l.r
