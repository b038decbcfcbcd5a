-- `taps::weighted::weighted` meets its contract. The loop's invariant: the sums are the definition's over the taps
-- passed.
use mathlib.Core.Path.{ap, ◌∙◌}
use borrow.Author.Rules.{rules}
use Rattle.exact.proofs.Loop.{up_to_none, up_to_next, up_to_last}
use Rattle.taps.specs.Weighted.{mean, weighted}
use Rattle.taps.proofs.weighted.weighted.Goals as goal

pub loop-k-init : goal.loop-k-init
loop-k-init c = (c.nothing-s.ensures ∙ up_to_none _ _ _, search rules)

pub loop-k-preserved : goal.loop-k-preserved
loop-k-preserved c = (
  c.added-s.ensures ∙ up_to_next _ _ _ _ (search rules) c.loop-k.invariant.0,
  search rules,
)

pub returns : goal.returns
unfolding weighted
returns c = c.mean.ensures
    ∙ ap mean (up_to_last _ _ _ _ _ (search rules) (search rules) c.loop-k.invariant.0)
