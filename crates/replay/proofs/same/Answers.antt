-- `replay::same` meets its contract: both tests decide that the lists are equal. Assumes nothing.
use mathlib.Core.Path.{◌∙◌}
use Rattle.replay.proofs.SameLaws.{same_bytes}
use Rattle.replay.proofs.same.Goals as goal

pub returns : goal.returns
returns c = c.eq.ensures ∙ same_bytes _ _
