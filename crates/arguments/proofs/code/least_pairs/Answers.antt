-- A code that is absent states nothing.
use Rattle.arguments.proofs.CodeLaws.{no_pairs_asked}
use Rattle.arguments.proofs.code.least_pairs.Goals as goal

pub returns-in-Err : goal.returns-in-Err
returns-in-Err c = no_pairs_asked _ _ c.in-Err.ensures.1
