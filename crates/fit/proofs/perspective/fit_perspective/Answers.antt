-- The two ways out are the cases of the definition.
use Rattle.std.proofs.Common.{ap, ◌∙◌}
use Rattle.std.proofs.lemmas.Result.{err_from_is_err_and}
use Rattle.fit.specs.Perspective.{fit_perspective}
use Rattle.fit.proofs.FitLaws.{none_8, some_8}
use Rattle.mappings.specs.Mapping.{perspective_kind, mapping}
use Rattle.fit.proofs.perspective.fit_perspective.Goals as goal

pub returns-in_err-c : goal.returns-in_err-c
unfolding fit_perspective
returns-in_err-c c =
    let p = err_from_is_err_and c.from_residual.result c.from_residual.ensures.1 in
    rw (p.1, p.2, ← c.fit_twin.ensures) (none_8 _ _ _ c.in_err-c.ensures.value)

pub returns : goal.returns
unfolding fit_perspective
returns c = rw (← c.fit_twin.ensures, ← c.mean_of_side-rx.ensures, ← c.mean_of_side-ry.ensures)
    (some_8 _ _ _ c.in_ok-c.ensures.value (c.new.ensures ∙ ap (mapping perspective_kind 0) c.orient-m.ensures))
