-- `band::any::store_any` meets its contract. The loop's invariant: the pixels passed are in the band, and the matte
-- ones among them are counted.
use borrow.Author.Rules.{rules}
use Rattle.exact.specs.Vector.{at}
use Rattle.point.specs.Point.{usable}
use Rattle.band.proofs.RowLaws.{row_start, row_next, bit_most}
use Rattle.band.proofs.any.store_any.Goals as goal

pub loop-k-init : goal.loop-k-init
loop-k-init c = row_start c.requires.out_channels_in_bounds
    (λ k. bit_most (usable (at c.args.us.now k) (at c.args.vs.now k)))

pub loop-k-preserved : goal.loop-k-preserved
loop-k-preserved c =
    let r = c.store_one-matte_pixels in
    row_next c.requires.out_channels_in_bounds c.loop-k.invariant c.requires.channels
    (search rules) r.ensures.0 r.ensures.1
