-- `probe_sampler::many::store_samples` meets its contract. The loop's invariant: the points passed are done, and the
-- bytes are as many as before.
use mathlib.Core.Path.{◌∙◌}
use Rattle.exact.proofs.Loop.{up_to_none, up_to_next, up_to_last}
use borrow.Author.Rules.{rules}
use Rattle.probe_sampler.proofs.many.store_samples.Goals as goal

pub loop-k-init : goal.loop-k-init
loop-k-init c = (up_to_none _ _ _, search rules)

pub loop-k-preserved : goal.loop-k-preserved
loop-k-preserved c = (
  c.store_sampled.ensures
      ∙ up_to_next _ _ _ _ (search rules) c.loop-k.invariant.0,
  search rules,
)

pub returns : goal.returns
returns c = up_to_last _ _ _ _ _ (search rules) (search rules) c.loop-k.invariant.0
