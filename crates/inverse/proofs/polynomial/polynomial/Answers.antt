-- `inverse::polynomial::polynomial` meets its contract: there are as many monomials as it counts, and zeros after them
-- are not read. Assumes nothing.
use mathlib.Core.Path.{◌∙◌, subst⁻¹}
use Prim.Native.Nat.{ℕ, ◌≤◌}
use Rattle.inverse.proofs.PolynomialLaws.{terms_few, dots_monomials}
use Rattle.inverse.proofs.polynomial.polynomial.Goals as goal

pub dots-requires : goal.dots-requires
dots-requires c = subst⁻¹ (λ (n : ℕ). n ≤ 21) c.terms.ensures (terms_few _)

pub returns : goal.returns
returns c = c.dots.ensures
    ∙ dots_monomials _ _ _ _ _ _ c.monomials-mono.ensures c.terms.ensures
