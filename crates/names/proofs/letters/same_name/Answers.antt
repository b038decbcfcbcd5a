-- `names::letters::same_name` meets its contract: bytes as long as a name are the name where all pairs are the same.
-- Assumes nothing.
use mathlib.Core.Path.{◌∙◌}
use Rattle.names.proofs.Equal.{all_same}
use Rattle.names.proofs.letters.same_name.Goals as goal

pub returns-then-s-name : goal.returns-then-s-name
returns-then-s-name c = c.all_same.ensures ∙ all_same _ _ c.if-s-name.true
