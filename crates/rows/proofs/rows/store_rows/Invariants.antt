-- `rows::rows::store_rows` meets its contract. The loop's invariant: the rows passed are in the band, one after
-- another, and their matte pixels are counted. Assumes nothing.
use Prim.Native.Nat.{ℕ, ◌+◌, ◌-◌}
use Rattle.band.specs.Band.{pictured, framed, row_bytes, row_matte_pixels}
use Rattle.band.proofs.RowLaws.{RowsHolds}
use Rattle.rows.proofs.rows.store_rows.Given as goal

abbrev pub invariant-loop-r : goal.invariant-loop-r
invariant-loop-r l = RowsHolds l.out.channels l.width l.count
    (λ (k : ℕ). row_bytes (pictured l.picture l.look) (framed l.frame) l.out.channels l.width (l.first + k))
    (λ (k : ℕ). row_matte_pixels (framed l.frame) l.width (l.first + k)) l.initial.band l.band l.matte_pixels l.r

abbrev pub decreases-loop-r : goal.decreases-loop-r
decreases-loop-r l = l.count - l.r
