-- Each way out is the case of the definition that `eliminate` answered.
use Rattle.linear.specs.Eliminate.{outcome}
use Rattle.linear.specs.Solve.{solved}
use Rattle.linear.proofs.equations.Equations.solve.Goals as goal

pub returns-in_err-eliminate : goal.returns-in_err-eliminate
unfolding solved outcome
returns-in_err-eliminate c = rw (c.from_residual.ensures, ← c.in_err-eliminate.ensures.system)

pub returns : goal.returns
unfolding solved outcome
returns c = rw (
  ← c.in_ok-eliminate.ensures.system,
  c.substitute.ensures,
  c.eliminate.ensures.unknowns,
)
