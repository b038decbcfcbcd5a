-- `in_rest` is its definition. The loop's invariant: what was found already, or among the samples passed. Assumes
-- nothing.
use mathlib.Core.Path.{ap, ◌∙◌}
use mathlib.Core.Bool.{Bool, ◌||◌}
use borrow.Author.Rules.{rules}
use Rattle.exact.proofs.Loop.{up_to_none, up_to_next, up_to_last}
use Rattle.sample_limit.proofs.large.in_rest.Goals as goal

pub loop-k-init : goal.loop-k-init
loop-k-init c = (up_to_none _ _ _, search rules)

pub loop-k-preserved : goal.loop-k-preserved
loop-k-preserved c = (
  ap (λ (t : Bool). c.loop-k.found || t) c.beyond_limit-found.ensures
      ∙ up_to_next _ _ _ _ (search rules) c.loop-k.invariant.0,
  search rules,
)

pub returns : goal.returns
returns c = up_to_last _ _ _ _ _ (search rules) (search rules) c.loop-k.invariant.0
