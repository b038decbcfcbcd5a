-- `fast_colours::one_by_one::store_one_by_one` meets its contract. The loop's invariant: the pixels passed are in the
-- band.
use mathlib.Core.Path.{◌∙◌, refl}
use native.Mathlib.Omega.{arith}
use borrow.Author.Rules.{rules}
use Rattle.band.proofs.RowLaws.{row_start, row_next}
use Rattle.fast_colours.proofs.one_by_one.store_one_by_one.Goals as goal

pub loop-k-init : goal.loop-k-init
loop-k-init c = row_start c.requires.channels_in_bounds (λ k. omega arith)

pub loop-k-preserved : goal.loop-k-preserved
loop-k-preserved c =
    row_next c.requires.channels_in_bounds c.loop-k.invariant c.requires.channels (search rules) refl
    (c.store_number_pixel.ensures
    ∙ rw (c.coloured.ensures, c.weights_at.ensures, c.wide.ensures, c.wide-in-loop-k.ensures))
