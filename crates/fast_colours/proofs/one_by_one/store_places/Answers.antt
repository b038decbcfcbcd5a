-- `fast_colours::one_by_one::store_places` meets its contract. The loop's invariant: the pixels passed are in the band.
use mathlib.Core.Path.{◌∙◌, refl}
use native.Mathlib.Omega.{arith}
use borrow.Author.Rules.{rules}
use Rattle.fast_colours.proofs.NumberLaws.{pixel_numbers}
use Rattle.band.proofs.RowLaws.{row_start, row_next}
use Rattle.fast_colours.proofs.one_by_one.store_places.Goals as goal

pub loop-k-init : goal.loop-k-init
loop-k-init c = row_start c.requires.channels_in_bounds (λ k. omega arith)

pub store_number_pixel-requires-clause-numbers : goal.store_number_pixel-requires-clause-numbers
store_number_pixel-requires-clause-numbers c =
    let W = c.requires.pixels_inside in
    rw (c.pixel_at.ensures, c.wide.ensures, c.wide-in-loop-k.ensures)
    (pixel_numbers c.args.picture.fits _ _ (W.column _ (search rules)) (W.row _ (search rules)))

pub loop-k-preserved : goal.loop-k-preserved
loop-k-preserved c =
    row_next c.requires.channels_in_bounds c.loop-k.invariant c.requires.channels (search rules) refl
    (c.store_number_pixel.ensures ∙ rw (c.pixel_at.ensures, c.wide.ensures, c.wide-in-loop-k.ensures))
