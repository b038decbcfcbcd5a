-- `probe_points::many::store_points` meets its contract. The loop's invariant: k points are written, and the bytes are
-- as many as before. Assumes nothing.
use Rattle.probe_points.specs.Points.{store_next}
use Rattle.exact.proofs.Loop.{up_to_none, up_to_next, up_to_last}
use mathlib.Core.Path.{◌∙◌}
use borrow.Author.Rules.{rules}
use Rattle.probe_points.proofs.many.store_points.Goals as goal

pub loop-k-init : goal.loop-k-init
loop-k-init c = (up_to_none _ _ _, search rules)

pub loop-k-preserved : goal.loop-k-preserved
unfolding store_next
loop-k-preserved c = (
  c.store_point.ensures
      ∙ rw (
        c.inverse-p.ensures,
        c.read_at-y.ensures,
        c.read_at-x.ensures,
      )
      (up_to_next _ _ _ _ (search rules)
      c.loop-k.invariant.0),
  (
    c.store_point.auto.out
        ∙ c.loop-k.invariant.1.0,
    search rules,
  ),
)

pub returns : goal.returns
returns c = up_to_last _ _ _ _ _ (search rules) (search rules) c.loop-k.invariant.0
