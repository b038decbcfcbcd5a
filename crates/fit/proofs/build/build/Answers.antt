-- The refusal that the table gives, or else what the maker ensures.
use Rattle.std.proofs.Common.{ℕ, refl, ◌∙◌, ap}
use Rattle.std.proofs.lemmas.Result.{err_from_is_err_and}
use Rattle.exact.specs.Vector.{at}
use Rattle.arguments.specs.Refusal.{pairs_in}
use Rattle.fit.specs.Build.{made}
use Rattle.fit.proofs.BuildLaws.{number_some, few_pairs_law, pairs_held, order_held, build_refused, build_made}
use Rattle.fit.proofs.build.build.Goals as goal

pub returns-in_err-method : goal.returns-in_err-method
returns-in_err-method c =
    let p = err_from_is_err_and c.from_residual.result c.from_residual.ensures.1 in
    rw (p.1, p.2) (build_refused _ _ c.in_err-method.ensures.number _ _ (number_some _) refl)

pub made-requires : goal.made-requires
made-requires c =
    let told = c.in_ok-method.ensures.number in
    few_pairs_law _ _ told refl (ap (λ (k : ℕ). pairs_in k c.fill.result.count) c.in_ok-method.ensures.code
    ∙ pairs_held _ _ told refl c.fill.ensures.1 refl)

pub returns : goal.returns
returns c =
    let told = c.in_ok-method.ensures.number in
    let filled = c.fill.ensures in
    let values = c.fill.result.values in
    let count = c.fill.result.count in
    build_made _ _ told _ _ refl filled.0 filled.1
    (pairs_held _ _ told refl filled.1 refl)
    (order_held _ _ told filled.0)
    c.nearest_u64_to_f64-w.ensures
    c.nearest_u64_to_f64-h.ensures
    (c.made.ensures
    ∙ ap (λ (k : ℕ). made k values count (pairs_in k count) (at values 0) c.nearest_u64_to_f64-w.result
    c.nearest_u64_to_f64-h.result) c.in_ok-method.ensures.code)
