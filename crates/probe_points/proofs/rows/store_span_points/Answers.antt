-- `probe_points::rows::store_span_points` meets its contract: what is kept of the points is written as they are
-- (`RowsLaws.antt`). Assumes nothing.
use mathlib.Core.Path.{◌∙◌}
use Rattle.probe_points.proofs.RowsLaws.{span_is}
use Rattle.probe_points.proofs.rows.store_span_points.Goals as goal

pub returns : goal.returns
returns c =
    c.store_kept.ensures
    ∙ span_is c.args.frame _ _ _ _ _ _ c.points.ensures _
