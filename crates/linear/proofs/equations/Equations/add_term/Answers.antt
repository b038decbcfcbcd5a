-- The matrix is what `add_products` ensures, and the right-hand side the definition's as written.
use Rattle.linear.specs.Normal.{add_term}
use Rattle.linear.proofs.equations.Equations.add_term.Goals as goal

pub returns-clause-system : goal.returns-clause-system
unfolding add_term
returns-clause-system c = rw (c.add_products.ensures.matrix, c.add_products.ensures.rest.0)
