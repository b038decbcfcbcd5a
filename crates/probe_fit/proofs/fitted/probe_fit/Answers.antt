-- `probe_fit::fitted::probe_fit` meets its contract: each way out is the case of the definition that the fit took.
-- Assumes nothing.
use borrow.Author.Tests.{ne_eqb}
use Rattle.fit.proofs.BuildLaws.{number_some}
use Rattle.mappings.specs.Mapping.{refused}
use Rattle.probe_fit.specs.Fitted.{answered, probe_fit}
use Rattle.probe_fit.proofs.fitted.probe_fit.Goals as goal

pub returns-in-Ok : goal.returns-in-Ok
unfolding probe_fit answered
returns-in-Ok c = rw (← c.in-Ok.ensures, c.store_coefficients.ensures, c.store_at.ensures, c.most.ensures)

pub returns-in-Err : goal.returns-in-Err
unfolding probe_fit answered refused
returns-in-Err c = rw (← c.in-Err.ensures, c.number.ensures, ne_eqb _ 0 (number_some c.in-Err.r))
