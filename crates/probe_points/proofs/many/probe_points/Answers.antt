-- `probe_points::many::probe_points` meets its contract: each way out is the case of the definition that its tests
-- took. Assumes nothing.
use mathlib.Core.Path.{sym, ◌∙◌}
use Rattle.probe_points.specs.Points.{points_of, probe_points}
use Rattle.probe_points.proofs.PointsLaws.{lengths_fit}
use borrow.Author.Tests.{ne_eqb}
use Rattle.fit.proofs.BuildLaws.{number_some}
use Rattle.mappings.specs.Mapping.{refused}
use Rattle.probe_points.proofs.many.probe_points.Goals as goal

pub returns-in-Err : goal.returns-in-Err
unfolding probe_points points_of refused
returns-in-Err c = rw (← c.in-Err.ensures, c.number.ensures, ne_eqb _ 0 (number_some c.in-Err.r))

pub returns-then-wrong_lengths : goal.returns-then-wrong_lengths
unfolding probe_points points_of
returns-then-wrong_lengths c = rw (
  ← c.in-Ok.ensures,
  ← c.wrong_lengths.ensures,
  c.if-wrong_lengths.true,
)

pub store_points-requires : goal.store_points-requires
store_points-requires c = lengths_fit _ _ (sym c.wrong_lengths.ensures
    ∙ c.if-wrong_lengths.false)

pub returns : goal.returns
unfolding probe_points points_of
returns c = rw (
  ← c.in-Ok.ensures,
  ← c.wrong_lengths.ensures,
  c.if-wrong_lengths.false,
  c.store_points.ensures,
)
