-- A code that is none of the ten is absent.
use Rattle.std.proofs.Common.{refl, arith}
use Rattle.std.proofs.lemmas.Bool.Decides.{nat_tests}
use Rattle.arguments.specs.Method.{present}
use Rattle.arguments.proofs.code.MethodTryFromU64.try_from.Goals as goal

pub returns-in_default : goal.returns-in_default
unfolding present
returns-in_default c = (refl, grind (arith, nat_tests))
