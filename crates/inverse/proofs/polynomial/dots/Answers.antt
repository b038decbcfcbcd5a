-- `inverse::polynomial::dots` meets its contract. The loop's invariant: u and v are the sums of the terms passed.
-- Assumes nothing.
use mathlib.Core.Path.{◌∙◌}
use borrow.Author.Rules.{rules}
use Rattle.exact.proofs.Loop.{up_to_none, up_to_next, up_to_last}
use Rattle.inverse.proofs.PolynomialLaws.{same_point}
use Rattle.inverse.proofs.polynomial.dots.Goals as goal

pub loop-k-init : goal.loop-k-init
loop-k-init c = (up_to_none _ _ _, (up_to_none _ _ _, search rules))

pub loop-k-preserved : goal.loop-k-preserved
loop-k-preserved c =
    let head = c in (
      up_to_next _ _ _ head.loop-k.k (search rules) head.loop-k.invariant.0,
      (up_to_next _ _ _ head.loop-k.k (search rules) head.loop-k.invariant.1.0, search rules),
    )

pub returns : goal.returns
returns c =
    let head = c in
    c.point.ensures
    ∙ same_point
    (up_to_last _ _ _ head.loop-k.k _ (search rules) (search rules) head.loop-k.invariant.0)
    (up_to_last _ _ _ head.loop-k.k _ (search rules) (search rules) head.loop-k.invariant.1.0)
