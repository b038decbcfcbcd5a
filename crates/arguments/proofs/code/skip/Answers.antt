-- A code that is absent states nothing.
use Rattle.arguments.proofs.CodeLaws.{nothing_skipped}
use Rattle.arguments.proofs.code.skip.Goals as goal

pub returns-in-Err : goal.returns-in-Err
returns-in-Err c = nothing_skipped _ c.in-Err.ensures.1
