-- `band::any::store_any` meets its contract. The loop's invariant: the pixels passed are in the band, and the matte
-- ones among them are counted. Assumes nothing.
use Prim.Native.Nat.{ℕ}
use Rattle.exact.specs.Vector.{at}
use Rattle.band.specs.Band.{pictured, kept_colour, kept_matte_pixels}
use Rattle.band.proofs.RowLaws.{RowHolds}
use Rattle.band.proofs.any.store_any.Given as goal

abbrev pub invariant-loop-k : goal.invariant-loop-k
invariant-loop-k l =
    RowHolds l.out_channels l.n l.span.pixel
    (λ (i : ℕ). kept_colour (pictured l.picture l.look) (at l.us i) (at l.vs i))
    (λ (i : ℕ). kept_matte_pixels (at l.us i) (at l.vs i)) l.initial.band l.band l.matte_pixels l.k
