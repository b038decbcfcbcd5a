-- The rows of the table before the one that answers did not hold, and that one did.
use Rattle.exact.specs.Table.{first_of}
use Rattle.arguments.specs.Refusal.{arguments_refusal}
use Rattle.arguments.proofs.CodeLaws.{present_by}
use Rattle.arguments.proofs.refusal.arguments_refusal.Goals as goal

pub returns-then-bad_count-clause-number : goal.returns-then-bad_count-clause-number
unfolding arguments_refusal first_of
returns-then-bad_count-clause-number c = simp (
  present_by _ _ c.in_ok-judged.ensures,
  ← c.bad_count.ensures,
  c.if-bad_count.true,
)

pub returns-then-bad_argument-clause-number : goal.returns-then-bad_argument-clause-number
unfolding arguments_refusal first_of
returns-then-bad_argument-clause-number c = simp (
  present_by _ _ c.in_ok-judged.ensures,
  ← c.bad_count.ensures,
  c.if-bad_count.false,
  ← c.bad_argument.ensures,
  c.if-bad_argument.true,
)

pub returns-then-bad_order-clause-number : goal.returns-then-bad_order-clause-number
unfolding arguments_refusal first_of
returns-then-bad_order-clause-number c = simp (
  present_by _ _ c.in_ok-judged.ensures,
  ← c.bad_count.ensures,
  c.if-bad_count.false,
  ← c.bad_argument.ensures,
  c.if-bad_argument.false,
  ← c.bad_order.ensures,
  c.if-bad_order.true,
)

pub returns-then-few_pairs-clause-number : goal.returns-then-few_pairs-clause-number
unfolding arguments_refusal first_of
returns-then-few_pairs-clause-number c = simp (
  present_by _ _ c.in_ok-judged.ensures,
  ← c.bad_count.ensures,
  c.if-bad_count.false,
  ← c.bad_argument.ensures,
  c.if-bad_argument.false,
  ← c.bad_order.ensures,
  c.if-bad_order.false,
  ← c.few_pairs.ensures,
  c.if-few_pairs.true,
)

pub returns-clause-number : goal.returns-clause-number
unfolding arguments_refusal first_of
returns-clause-number c = simp (
  present_by _ _ c.in_ok-judged.ensures,
  ← c.bad_count.ensures,
  c.if-bad_count.false,
  ← c.bad_argument.ensures,
  c.if-bad_argument.false,
  ← c.bad_order.ensures,
  c.if-bad_order.false,
  ← c.few_pairs.ensures,
  c.if-few_pairs.false,
)
