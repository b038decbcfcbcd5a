-- A code is present where it was judged to be a method's.
use mathlib.Core.Path.{◌∙◌}
use Rattle.arguments.proofs.CodeLaws.{judged_present}
use Rattle.arguments.proofs.code.is_present.Goals as goal

pub returns : goal.returns
returns c = c.is_ok.ensures.value ∙ judged_present _ _ c.try_from.ensures
