-- `fast_colours::broad::store_first` meets its contract. The loop's invariant: the pixels passed are in the band, and
-- of the rest the next one's first sample alone may differ. Assumes nothing.
use Prim.Native.Nat.{◌-◌}
use Rattle.fast_colours.specs.InsideSpan.{mixed_at}
use Rattle.fast_colours.proofs.CoverLaws.{Overlaid}
use Rattle.fast_colours.proofs.broad.store_first.Given as goal

abbrev pub invariant-loop-k : goal.invariant-loop-k
invariant-loop-k l = Overlaid l.m l.pixel (mixed_at l.picture.bytes.now l.picture.width 3 l.columns l.rows l.w) l.initial.band l.band l.k

abbrev pub decreases-loop-k : goal.decreases-loop-k
decreases-loop-k l = l.m - l.k
