-- `dihyravo::number` meets its contract: each case of the enum is that of the definition, and a code that is small
-- enough is the signed number's value.
use mathlib.Core.Path.{sym, ap, subst, ◌∙◌}
use Prim.Native.Nat.{◌^◌}
use mir.Syntax.{w64}
use mir.Facts.{to_z_pos}
use Rattle.std.proofs.Common.{ℕ, Option}
use Rattle.names.specs.Names.{Below}
use Rattle.dihyravo.specs.Answer.{named_answer}
use Rattle.dihyravo.proofs.number.Goals as goal

pub overflow_cast-result : goal.overflow_cast-result
overflow_cast-result c =
    record { sfits = subst (λ (r : Option ℕ). Below (2 ^ 63) r) c.in-Some.is c.requires }

pub returns-in-Some : goal.returns-in-Some
returns-in-Some c =
    to_z_pos w64 (subst (λ (r : Option ℕ). Below (2 ^ 63) r) c.in-Some.is c.requires)
    ∙ sym (ap named_answer c.in-Some.is)

pub returns-in-None : goal.returns-in-None
returns-in-None c = rw c.number.ensures (sym (ap named_answer c.in-None.is))
