-- There is room for the four terms, and the two ways out are the cases of the definition.
use Rattle.std.proofs.Common.{◌∙◌}
use Rattle.std.proofs.lemmas.Result.{err_from_is_err_and}
use Rattle.mappings.specs.declared.rows.Twin.TheVariants.{Similarity}
use Rattle.fit.specs.Fit.{fit_twin}
use Rattle.fit.specs.Affine.{similarity}
use Rattle.fit.proofs.FitLaws.{none_8, some_8, affine_terms_law}
use Rattle.fit.proofs.affine.similarity.Goals as goal

pub fit_twin-requires : goal.fit_twin-requires
fit_twin-requires c = (c.requires.0, affine_terms_law 2 c.terms.ensures)

pub returns-in_err-x : goal.returns-in_err-x
unfolding similarity
returns-in_err-x c =
    let p = err_from_is_err_and c.from_residual.result c.from_residual.ensures.1 in
    let e = c.fit_twin.ensures
    ∙ (λ i. fit_twin c.args.pairs.now.values.now (c.requires.1 i) Similarity (c.terms.ensures i)) in
    rw (p.1, p.2, ← e) (none_8 _ _ _ c.in_err-x.ensures.value)

pub returns : goal.returns
unfolding similarity
returns c =
    let e = c.fit_twin.ensures
    ∙ (λ i. fit_twin c.args.pairs.now.values.now (c.requires.1 i) Similarity (c.terms.ensures i)) in
    rw (← e) (some_8 _ _ _ c.in_ok-x.ensures.value c.new.ensures)
