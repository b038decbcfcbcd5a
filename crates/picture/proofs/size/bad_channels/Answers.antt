-- `picture::size::bad_channels` is its definition: the tests are the definition's.
use mathlib.Core.Path.{refl}
use Rattle.picture.specs.Size.{bad_channels}
use Rattle.picture.proofs.size.bad_channels.Goals as goal

pub returns : goal.returns
unfolding bad_channels
returns c = refl
