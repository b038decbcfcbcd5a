-- What the methods whose terms are monomials are fitted to: u and v from the terms in x and y, or, forward, x and y
-- from the terms 1, u, v, uv. Specification 5.2. Assumes nothing.
use Rattle.std.specs.Prelude.{ℕ, Float}
use Rattle.arguments.specs.Order.{degree, terms_of}
use Rattle.mappings.specs.declared.rows.Terms.TheVariants.{Polynomial, Forward}
use Rattle.fit.specs.Fit.{fit_both, u_and_v, x_and_y}
use Rattle.mappings.specs.Mapping.{Fitted, poly_kind, bilinear_forward_kind}
use Rattle.exact.specs.Vector.{Vector}

-- the pairs come after the order; the mapping has its degree, 0 for the terms 1, x, y, xy
abbrev pub fit_polynomial : Vector → ℕ → Float → Fitted
fit_polynomial values pairs order =
    fit_both values 1 pairs (Polynomial (degree order)) u_and_v (terms_of order) poly_kind (degree order)

abbrev pub fit_bilinear_reverse : Vector → ℕ → Fitted
fit_bilinear_reverse values pairs = fit_both values 0 pairs (Polynomial 0) u_and_v 4 poly_kind 0

abbrev pub fit_bilinear_forward : Vector → ℕ → Fitted
fit_bilinear_forward values pairs = fit_both values 0 pairs Forward x_and_y 4 bilinear_forward_kind 0
