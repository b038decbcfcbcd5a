-- `rows::rows::store_rows` meets its contract. The loop's invariant: the rows passed are in the band, one after
-- another, and their matte pixels are counted.
use mathlib.Core.Path.{◌∙◌}
use native.Mathlib.Nat.{le_antisymm}
use borrow.Author.Rules.{rules}
use Rattle.band.specs.Band.{rows_bytes, rows_matte_pixels}
use Rattle.band.proofs.LengthLaws.{row_length_law, row_matte_most}
use Rattle.band.proofs.RowLaws.{rows_start, rows_next, rows_done}
use Rattle.rows.proofs.rows.store_rows.Goals as goal

pub loop-r-init : goal.loop-r-init
loop-r-init c = rows_start c.requires.band_len (λ k. row_matte_most _ _ _)

pub loop-r-preserved : goal.loop-r-preserved
loop-r-preserved c =
    let r = c.store_row-matte_pixels in
    rows_next c.requires.band_len c.loop-r.invariant (search rules)
    (row_length_law _ _ _ _ _) r.ensures.0 r.ensures.1

pub returns : goal.returns
unfolding rows_bytes rows_matte_pixels
returns c =
    let H = c.loop-r.invariant in (
      H.count ∙ rw (le_antisymm H.most (search rules)),
      rows_done c.requires.band_len H (le_antisymm H.most (search rules)),
    )
