-- `picture::size::bad_side` is its definition: the tests are the definition's.
use mathlib.Core.Path.{refl}
use Rattle.picture.specs.Size.{bad_side}
use Rattle.picture.proofs.size.bad_side.Goals as goal

pub returns : goal.returns
unfolding bad_side
returns c = refl
