-- `listing::answer::fitted` meets its contract: a text's end and its fit answer as the definition's cases, and the
-- arguments of a text that is accepted lie within the bytes. Assumes nothing.
use mathlib.Core.Path.{sym, ap, subst, ◌∙◌}
use Rattle.std.proofs.lemmas.Result.{err_from_is_err_and}
use Rattle.listing.specs.Answer.{fitted_text, fit_text, outcome_text, answer_text}
use Rattle.listing.proofs.EndLaws.{AtMost, finish_at_most, text_fitted}
use Rattle.listing.proofs.answer.fitted.Goals as goal

pub returns-in_err-n : goal.returns-in_err-n
unfolding answer_text outcome_text
returns-in_err-n c =
    let p = err_from_is_err_and c.from_residual.result c.from_residual.ensures.1 in
    rw (← c.in_err-n.ensures, p.1, p.2)

pub shared_ref_as_front-build : goal.shared_ref_as_front-build
shared_ref_as_front-build c = subst (AtMost 2048) (sym c.in_ok-n.ensures) (finish_at_most c.args.s)

pub returns : goal.returns
unfolding answer_text outcome_text fit_text
returns c = text_fitted _ ∙ ap fitted_text c.build.ensures ∙ rw (← c.in_ok-n.ensures)
