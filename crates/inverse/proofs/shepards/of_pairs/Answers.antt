-- `inverse::shepards::of_pairs` meets its contract. The loop's invariant: the sums are the definition's after the pairs
-- passed, none of which was the answer. Assumes nothing.
use mathlib.Core.Path.{◌∙◌}
use borrow.Author.Rules.{rules}
use Rattle.exact.proofs.Loop.{up_to_none}
use Rattle.inverse.proofs.ShepardsLaws.{pair_adds, pair_leaves, pairs_end}
use Rattle.inverse.proofs.shepards.of_pairs.Goals as goal

pub loop-j-init : goal.loop-j-init
loop-j-init c = (up_to_none _ _ _, search rules)

pub returns-then-d2 : goal.returns-then-d2
returns-then-d2 c =
    let head = c in
    c.point.ensures ∙ pair_leaves _ _ _ _ head.loop-j.j head.loop-j.invariant.0 _ (search rules)
    c.if-d2.true

pub loop-j-preserved : goal.loop-j-preserved
loop-j-preserved c =
    let head = c in
    (pair_adds _ _ _ _ head.loop-j.j head.loop-j.invariant.0 c.if-d2.false, search rules)

pub returns : goal.returns
returns c =
    let head = c in
    c.point-2.ensures ∙ pairs_end _ _ _ _ head.loop-j.j head.loop-j.invariant.0 _ (search rules) (search rules)
