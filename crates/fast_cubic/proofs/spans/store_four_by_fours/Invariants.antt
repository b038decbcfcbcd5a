-- `fast_cubic::spans::store_four_by_fours` meets its contract. The loop's invariant: the pixels passed are in the band.
-- Assumes nothing.
use Prim.Native.Nat.{ℕ, ◌-◌}
use lib.ListN.{get_or}
use Rattle.fast_cubic.specs.Kernels.{of_four}
use Rattle.fast_cubic.specs.FourByFours.{four_by_four}
use Rattle.band.proofs.RowLaws.{RowHolds}
use Rattle.fast_cubic.proofs.spans.store_four_by_fours.Given as goal

abbrev pub invariant-loop-k : goal.invariant-loop-k
invariant-loop-k l = RowHolds l.picture.channels l.n l.span.pixel
    (λ (i : ℕ). four_by_four l.picture.bytes.now l.picture.width l.picture.channels (get_or l.columns i 0) (get_or l.rows i 0) (of_four l.wx i) (of_four l.wy i))
    (λ (i : ℕ). 0) l.initial.band l.band 0 l.k

abbrev pub decreases-loop-k : goal.decreases-loop-k
decreases-loop-k l = l.n - l.k
