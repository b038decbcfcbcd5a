-- `taps::weighted::added` meets its contract: the code's sums are the definition's, operation by operation. Assumes
-- nothing.
use mathlib.Core.Path.{refl}
use Rattle.taps.specs.Weighted.{added}
use Rattle.taps.proofs.weighted.added.Goals as goal

pub returns : goal.returns
unfolding added
returns c = refl
