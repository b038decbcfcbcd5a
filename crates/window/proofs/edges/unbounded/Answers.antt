-- `window::edges::unbounded` meets its contract: the constants are the infinities. Assumes nothing.
use Rattle.std.proofs.Common.{refl}
use lib.Ieee.{of_bits}
use Rattle.window.specs.Edges.{unbounded}
use Rattle.window.proofs.edges.unbounded.Goals as goal

pub returns : goal.returns
unfolding unbounded of_bits
returns c = refl
