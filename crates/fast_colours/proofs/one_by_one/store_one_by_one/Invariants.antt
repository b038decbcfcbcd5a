-- `fast_colours::one_by_one::store_one_by_one` meets its contract. The loop's invariant: the pixels passed are in the
-- band. Assumes nothing.
use Prim.Native.Nat.{ℕ, ◌-◌}
use Rattle.band.proofs.RowLaws.{RowHolds}
use Rattle.fast_colours.specs.InsideSpan.{mixed_at}
use Rattle.fast_colours.proofs.one_by_one.store_one_by_one.Given as goal

abbrev pub invariant-loop-k : goal.invariant-loop-k
invariant-loop-k l = RowHolds l.picture.channels l.n l.span.pixel (mixed_at l.picture.bytes.now l.picture.width l.picture.channels l.columns l.rows l.w) (λ (i : ℕ). 0) l.initial.band l.band 0 l.k

abbrev pub decreases-loop-k : goal.decreases-loop-k
decreases-loop-k l = l.n - l.k
