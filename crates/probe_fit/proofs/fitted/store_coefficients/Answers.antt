-- `probe_fit::fitted::store_coefficients` meets its contract. The loop's invariant: k coefficients are written, and the
-- bytes are as many as before. Assumes nothing.
use Rattle.probe_fit.specs.Fitted.{store_coefficient}
use Rattle.exact.proofs.Loop.{up_to_none, up_to_next, up_to_last}
use mathlib.Core.Path.{◌∙◌}
use borrow.Author.Rules.{rules}
use Rattle.probe_fit.proofs.fitted.store_coefficients.Goals as goal

pub loop-k-init : goal.loop-k-init
loop-k-init c = (up_to_none _ _ _, search rules)

pub loop-k-preserved : goal.loop-k-preserved
unfolding store_coefficient
loop-k-preserved c = (
  c.store_at.ensures
      ∙ up_to_next _ _ _ _ (search rules) c.loop-k.invariant.0,
  (search rules, search rules),
)

pub returns : goal.returns
returns c = up_to_last _ _ _ _ _ (search rules) (search rules) c.loop-k.invariant.0
