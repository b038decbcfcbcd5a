-- `taps::weights::bilinear` meets its contract: the four weights, and zeros past them.
use Rattle.taps.proofs.weights.bilinear.Goals as goal

pub returns : goal.returns
returns c = rw c.bilinear_weights-w.ensures
