-- `fast_cubic::spans::store_four_by_fours` meets its contract. The loop's invariant: the pixels passed are in the band.
use mathlib.Core.Path.{◌∙◌, refl}
use native.Mathlib.Omega.{arith}
use borrow.Author.Rules.{rules}
use Rattle.band.proofs.RowLaws.{row_start, row_next}
use Rattle.fast_cubic.proofs.spans.store_four_by_fours.Goals as goal

pub loop-k-init : goal.loop-k-init
loop-k-init c = row_start c.requires.channels_in_bounds (λ k. omega arith)

pub loop-k-preserved : goal.loop-k-preserved
loop-k-preserved c =
    row_next c.requires.channels_in_bounds c.loop-k.invariant c.requires.channels (search rules) refl
    (c.store_pixel.ensures
    ∙ rw (c.colour_of.ensures, c.wide.ensures, c.wide-in-loop-k.ensures, c.four_of.ensures, c.four_of-in-loop-k.ensures))
