-- The matrix is what `take_row` ensures, and the right-hand side the definition's as written.
use Rattle.linear.specs.Eliminate.{clear_row}
use Rattle.linear.proofs.equations.Equations.clear_row.Goals as goal

pub returns-clause-system : goal.returns-clause-system
unfolding clear_row
returns-clause-system c = rw (c.take_row.ensures.matrix, c.take_row.ensures.rest.0)
