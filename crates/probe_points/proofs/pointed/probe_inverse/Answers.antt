-- `probe_points::pointed::probe_inverse` meets its contract: each way out is the case of the definition that the fit
-- took. Assumes nothing.
use borrow.Author.Tests.{ne_eqb}
use Rattle.fit.proofs.BuildLaws.{number_some}
use Rattle.mappings.specs.Mapping.{refused}
use Rattle.probe_points.specs.Pointed.{pointed, probe_inverse}
use Rattle.probe_points.proofs.pointed.probe_inverse.Goals as goal

pub returns-in-Ok : goal.returns-in-Ok
unfolding probe_inverse pointed
returns-in-Ok c = rw (
  ← c.in-Ok.ensures,
  c.store_point.ensures,
  c.inverse.ensures,
  c.of_bits-v.ensures,
  c.of_bits-u.ensures,
)

pub returns-in-Err : goal.returns-in-Err
unfolding probe_inverse pointed refused
returns-in-Err c = rw (← c.in-Err.ensures, c.number.ensures, ne_eqb _ 0 (number_some c.in-Err.r))
