-- `fitted` meets its contract, stage by stage: the fit, and the window with what is worked in it. A code that passed
-- the tests is a policy's, or an interpolation's.
use mathlib.Core.Path.{refl, sym}
use borrow.Author.Rules.{rules}
use Rattle.std.proofs.lemmas.Result.{err_from_is_err_and}
use Rattle.fit.proofs.BuildLaws.{number_some}
use Rattle.band.specs.Image.{image_of}
use Rattle.distort.specs.Job.{call_by}
use Rattle.distort.proofs.DistortLaws.{
  fit_refused,
  by_window,
  picture_known,
  background_known,
  matte_known,
  channels_known,
  policy_known,
  interpolation_known,
}
use Rattle.distort.proofs.ViewLaws.{view_read}
use Rattle.distort.proofs.call.fitted.Goals as goal

pub returns-in_err-mapping : goal.returns-in_err-mapping
returns-in_err-mapping c =
    let p = err_from_is_err_and c.from_residual.result c.from_residual.ensures.1 in
    rw (p.1, p.2) (fit_refused
    (call_by c.args.picture.now c.args.arguments.now c.args.background.now c.args.matte.now c.args.job c.args.band.now)
    (sym c.requires) refl c.in_err-mapping.ensures (number_some _))

pub returns-in_err-try_from : goal.returns-in_err-try_from
returns-in_err-try_from c = absurd (policy_known
    (call_by c.args.picture.now c.args.arguments.now c.args.background.now c.args.matte.now c.args.job c.args.band.now)
    (sym c.requires) refl c.in_err-try_from.ensures.1)

pub returns-in_err-try_from-2 : goal.returns-in_err-try_from-2
returns-in_err-try_from-2 c = absurd (interpolation_known
    (call_by c.args.picture.now c.args.arguments.now c.args.background.now c.args.matte.now c.args.job c.args.band.now)
    (sym c.requires) refl c.in_err-try_from-2.ensures.1)

pub colour-requires : goal.colour-requires
colour-requires c = (background_known
    (call_by c.args.picture.now c.args.arguments.now c.args.background.now c.args.matte.now c.args.job c.args.band.now)
    (sym c.requires) refl (search rules)).picture.limited

pub colour-requires-2 : goal.colour-requires-2
colour-requires-2 c = (matte_known
    (call_by c.args.picture.now c.args.arguments.now c.args.background.now c.args.matte.now c.args.job c.args.band.now)
    (sym c.requires) refl (search rules)).picture.limited

pub new-source-requires : goal.new-source-requires
new-source-requires c = picture_known
    (call_by c.args.picture.now c.args.arguments.now c.args.background.now c.args.matte.now c.args.job c.args.band.now)
    (sym c.requires) refl

pub windowed-requires : goal.windowed-requires
windowed-requires c = record {
  channels = channels_known
      (call_by c.args.picture.now c.args.arguments.now c.args.background.now c.args.matte.now c.args.job
      c.args.band.now)
      (sym c.requires) refl _ c.widest-out_channels.ensures;
}

pub returns : goal.returns
returns c =
    let a = c.args in
    let e = c.new-source.ensures in
    by_window
    (call_by c.args.picture.now c.args.arguments.now c.args.background.now c.args.matte.now c.args.job c.args.band.now)
    (sym c.requires) refl c.in_ok-mapping.ensures refl
    a.job.view
    (view_read _ _ _ _ a.arguments.now a.background.now a.matte.now a.job)
    (λ i. image_of (e.same_bytes i) (e.same_shape.0 i) (e.same_shape.1.0 i) (e.same_shape.1.1 i))
    c.in_ok-try_from.ensures
    c.in_ok-try_from-2.ensures
    c.colour.ensures
    c.colour-2.ensures
    c.widest-out_channels.ensures
    c.windowed.ensures
