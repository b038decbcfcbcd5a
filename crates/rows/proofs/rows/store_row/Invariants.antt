-- `rows::rows::store_row` meets its contract. The loop's invariant: the row's pixels passed are in the band, and the
-- matte ones among them are counted. Assumes nothing.
use Prim.Native.Nat.{ℕ, ◌-◌}
use Rattle.band.specs.Band.{pictured, framed, colour_at, matte_pixels_at}
use Rattle.band.proofs.RowLaws.{RowHolds}
use Rattle.rows.proofs.rows.store_row.Given as goal

abbrev pub invariant-loop-i : goal.invariant-loop-i
invariant-loop-i l = RowHolds l.out.channels l.width l.pixel (λ (k : ℕ). colour_at (pictured l.picture l.look) (framed l.frame) k l.row.j)
    (λ (k : ℕ). matte_pixels_at (framed l.frame) k l.row.j) l.initial.band l.band l.matte_pixels l.i

abbrev pub decreases-loop-i : goal.decreases-loop-i
decreases-loop-i l = l.width - l.i
