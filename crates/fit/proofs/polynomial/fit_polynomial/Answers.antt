-- There is room for the terms.
use Rattle.fit.proofs.FitLaws.{polynomial_terms}
use Rattle.fit.proofs.polynomial.fit_polynomial.Goals as goal

pub fit_both-requires : goal.fit_both-requires
fit_both-requires c = polynomial_terms _ c.terms.ensures
