-- `probe_points::rows::store_kept` meets its contract. The loop's invariant: the columns before i are written, and the
-- bytes are as many as before. Assumes nothing.
use mathlib.Core.Path.{ap, ◌∙◌}
use borrow.Author.Rules.{rules}
use Rattle.exact.proofs.Loop.{up_to_none, up_to_next, up_to_last}
use Rattle.probe_points.specs.Pointed.{store_point}
use Rattle.probe_points.specs.Rows.{store_kept}
use Rattle.probe_points.proofs.rows.store_kept.Goals as goal

pub loop-i-init : goal.loop-i-init
loop-i-init c = (up_to_none _ _ _, search rules)

pub loop-i-preserved : goal.loop-i-preserved
unfolding store_kept
loop-i-preserved c = (
  c.store_point.ensures ∙ ap (store_point _ _) c.point.ensures
      ∙ up_to_next _ _ _ c.loop-i.i (search rules) c.loop-i.invariant.0,
  (c.store_point.auto.out ∙ c.loop-i.invariant.1.0, search rules),
)

pub returns : goal.returns
returns c = up_to_last _ _ _ _ _ (search rules) (search rules) c.loop-i.invariant.0
