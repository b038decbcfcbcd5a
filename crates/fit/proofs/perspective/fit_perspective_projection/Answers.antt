-- The two ways out are the cases of the definition.
use Rattle.std.proofs.Common.{ap, ◌∙◌}
use Rattle.std.proofs.lemmas.Result.{err_from_is_err_and}
use Rattle.fit.specs.Perspective.{fit_perspective_projection}
use Rattle.fit.proofs.FitLaws.{none_8, some_8}
use Rattle.mappings.specs.Mapping.{perspective_kind, mapping}
use Rattle.fit.proofs.perspective.fit_perspective_projection.Goals as goal

pub returns-in_err-back : goal.returns-in_err-back
unfolding fit_perspective_projection
returns-in_err-back c =
    let p = err_from_is_err_and c.from_residual.result c.from_residual.ensures.1 in
    rw (p.1, p.2, ← c.invert3.ensures) (none_8 _ _ _ c.in_err-back.ensures.value)

pub returns : goal.returns
unfolding fit_perspective_projection
returns c = rw (← c.invert3.ensures, ← c.projected-rx.ensures, ← c.projected-ry.ensures)
    (some_8 _ _ _ c.in_ok-back.ensures.value (c.new.ensures ∙ ap (mapping perspective_kind 0) c.orient-m.ensures))
