-- `cubic::cubic::outer` meets its contract: the two tests are the definition's.
use mathlib.Core.Path.{refl}
use Rattle.cubic.specs.Cubic.{outer}
use Rattle.cubic.proofs.cubic.outer.Goals as goal

pub returns : goal.returns
unfolding outer
returns c = refl
