-- `distort` meets its contract: the tests that need no fit, and else what the fit and the window give.
use mathlib.Core.Path.{sym}
use Rattle.std.proofs.lemmas.Result.{err_from_is_err_and}
use Rattle.fit.proofs.BuildLaws.{number_some}
use Rattle.distort.specs.Job.{call_by}
use Rattle.distort.proofs.DistortLaws.{by_tests}
use Rattle.distort.proofs.call.distort.Goals as goal

pub returns-in_err-unfit : goal.returns-in_err-unfit
returns-in_err-unfit c =
    let p = err_from_is_err_and c.from_residual.result c.from_residual.ensures.1 in
    rw (p.1, p.2) (by_tests
    (call_by c.args.picture.now c.args.arguments.now c.args.background.now c.args.matte.now c.args.job c.args.band.now)
    c.in_err-unfit.ensures (number_some _))

pub fitted-requires : goal.fitted-requires
fitted-requires c = sym c.in_ok-unfit.ensures
