-- `fast_colours::one_by_one::store_places` meets its contract. The loop's invariant: the pixels passed are in the band.
-- Assumes nothing.
use Prim.Native.Nat.{ℕ, ◌-◌}
use lib.ListN.{get_or}
use Rattle.picture.specs.Pixel.{pixel_at}
use Rattle.band.proofs.RowLaws.{RowHolds}
use Rattle.fast_colours.proofs.one_by_one.store_places.Given as goal

abbrev pub invariant-loop-k : goal.invariant-loop-k
invariant-loop-k l = RowHolds l.picture.channels l.n l.span.pixel (λ (i : ℕ). pixel_at l.picture.bytes.now l.picture.width l.picture.channels (get_or l.columns i 0) (get_or l.rows i 0))
    (λ (i : ℕ). 0) l.initial.band l.band 0 l.k

abbrev pub decreases-loop-k : goal.decreases-loop-k
decreases-loop-k l = l.n - l.k
