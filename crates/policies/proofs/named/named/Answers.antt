-- `policies::named::named` meets its contract: the test on the bits is that of the index. Assumes nothing.
use mathlib.Core.Path.{sym, ◌∙◌}
use Rattle.policies.proofs.IndexCode.{argument}
use Rattle.policies.proofs.NamedCode.{named_bits, named_beside, named_above}
use Rattle.policies.proofs.named.named.Goals as goal
use Rattle.policies.proofs.named.named.Goals.{
  else-i-w-via-then-i-w+else-j-h as above,
  else-i-w-via-else-i-w as beside,
}

pub returns-then-j-h : goal.returns-then-j-h
returns-then-j-h c = let a = c in
    rw (
      ← argument a.ranges.x c.bits_of_i64-i.ensures,
      ← argument a.ranges.y c.bits_of_i64-j.ensures,
    )
    (sym (named_bits _ _ _ _ _ a.requires c.if-i-w.true (c.if-j-h.true)))

pub returns : goal.returns
returns c = let a = c in
    rw (
      ← argument a.ranges.x c.bits_of_i64-i.ensures,
      ← argument a.ranges.y c.bits_of_i64-j.ensures,
    )
    (c.named_outside.ensures
    ∙ rw c.of_code.ensures
    (sym (elim c.else-i-w.branch [
      | above w ↦ named_above _ _ _ _ _ w.if-j-h.false
      | beside w ↦ named_beside _ _ _ _ _ w.if-i-w.false
    ])))
