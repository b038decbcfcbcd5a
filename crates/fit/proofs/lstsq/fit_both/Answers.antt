-- The three ways out are the cases of the two solutions.
use Rattle.std.proofs.lemmas.Result.{err_from_is_err_and}
use Rattle.fit.proofs.FitLaws.{both_first, both_second, both_found}
use Rattle.fit.proofs.lstsq.fit_both.Goals as goal

pub returns-in_err-xs : goal.returns-in_err-xs
returns-in_err-xs c =
    let p = err_from_is_err_and c.from_residual.result c.from_residual.ensures.1 in
    rw (p.1, p.2, ← c.fit_one.ensures) (both_first _ _ _ _ _ _ c.in_err-xs.ensures.value)

pub returns-in_err-ys : goal.returns-in_err-ys
returns-in_err-ys c =
    let p = err_from_is_err_and c.from_residual-in_err-ys.result c.from_residual-in_err-ys.ensures.1 in
    rw (p.1, p.2, ← c.fit_one.ensures, ← c.fit_one-2.ensures)
    (both_second _ _ _ _ _ _ _ c.in_ok-xs.ensures.value c.in_err-ys.ensures.value)

pub returns : goal.returns
returns c = rw (← c.fit_one.ensures, ← c.fit_one-2.ensures)
    (both_found _ _ _ _ _ _ _ c.in_ok-xs.ensures.value c.in_ok-ys.ensures.value c.of_two.ensures)
