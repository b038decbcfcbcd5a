-- There is room for the terms.
use Rattle.fit.proofs.FitLaws.{affine_terms_law}
use Rattle.fit.proofs.affine.fit_affine.Goals as goal

pub fit_both-requires : goal.fit_both-requires
fit_both-requires c = affine_terms_law _ c.terms.ensures
