-- `inverse::forward::bilinear_forward` meets its contract. The loop's invariant: (u, v) is where the steps made lead,
-- and none of them left the loop. Each way out is one of the laws of Newton's loop. Assumes nothing.
use mathlib.Core.Path.{◌∙◌}
use borrow.Author.Rules.{rules}
use Rattle.exact.proofs.Loop.{up_to_none}
use Rattle.inverse.proofs.ForwardLaws.{
  newton_none,
  newton_out,
  newton_on,
  newton_next,
  newton_leaves,
  newton_ends,
}
use Rattle.inverse.proofs.forward.bilinear_forward.Goals as goal

pub loop-steps-init : goal.loop-steps-init
loop-steps-init c = (up_to_none _ _ _, search rules)

-- the step is made: both tests failed
pub loop-steps-preserved : goal.loop-steps-preserved
loop-steps-preserved c =
    let d = c in
    let head = d in (
      newton_next _ _ _ _ _ head.loop-steps.steps head.loop-steps.invariant.0
          (newton_on _ _ _ _ _ _ d.abs.ensures _ _ c.abs-in-loop-steps.ensures
          c.abs-in-loop-steps-2.ensures d.if-abs.false c.if-abs-2.false),
      search rules,
    )

-- thirty steps
pub returns-then-steps-ge-MOST_STEPS : goal.returns-then-steps-ge-MOST_STEPS
returns-then-steps-ge-MOST_STEPS c = c.point.ensures
    ∙ newton_ends _ _ _ _ _ c.loop-steps.steps c.loop-steps.invariant.0 (search rules)
    (search rules)

-- the determinant is too small
pub returns-then-abs : goal.returns-then-abs
returns-then-abs c =
    let head = c in
    c.none.ensures
    ∙ newton_leaves _ _ _ _ _ head.loop-steps.steps head.loop-steps.invariant.0 _ (search rules)
    (newton_none _ _ _ _ _ _ c.abs.ensures c.if-abs.true)

-- the step is small
pub returns-then-abs-2 : goal.returns-then-abs-2
returns-then-abs-2 c =
    let d = c in
    let head = d in
    c.point-then-abs-2.ensures
    ∙ newton_leaves _ _ _ _ _ head.loop-steps.steps head.loop-steps.invariant.0 _ (search rules)
    (newton_out _ _ _ _ _ _ d.abs.ensures _ _ c.abs-in-loop-steps.ensures
    c.abs-in-loop-steps-2.ensures d.if-abs.false c.if-abs-2.true)
