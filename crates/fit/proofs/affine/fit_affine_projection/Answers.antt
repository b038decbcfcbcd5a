-- The two ways out are the cases of the definition.
use Rattle.std.proofs.lemmas.Result.{err_from_is_err_and}
use Rattle.fit.specs.Affine.{fit_affine_projection}
use Rattle.fit.proofs.FitLaws.{none_8, some_8}
use Rattle.fit.proofs.affine.fit_affine_projection.Goals as goal

pub returns-in_err-m : goal.returns-in_err-m
unfolding fit_affine_projection
returns-in_err-m c =
    let p = err_from_is_err_and c.from_residual.result c.from_residual.ensures.1 in
    rw (p.1, p.2, ← c.invert_affine.ensures) (none_8 _ _ _ c.in_err-m.ensures.value)

pub returns : goal.returns
unfolding fit_affine_projection
returns c = rw (← c.invert_affine.ensures) (some_8 _ _ _ c.in_ok-m.ensures.value c.new.ensures)
