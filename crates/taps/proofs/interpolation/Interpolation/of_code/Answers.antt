-- `Interpolation::of_code` meets its contract: the interpolation that the code is read as, or the last.
use mathlib.Core.Path.{◌∙◌}
use Rattle.taps.proofs.InterpolationCode.{decoded}
use Rattle.taps.proofs.interpolation.Interpolation.of_code.Goals as goal

pub returns : goal.returns
returns c = c.unwrap_or.ensures ∙ decoded _ _ c.try_from.ensures
