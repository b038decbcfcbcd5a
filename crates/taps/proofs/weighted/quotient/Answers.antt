-- `taps::weighted::quotient` meets its contract: the definition's test is the code's.
use Rattle.taps.specs.Weighted.{quotient}
use Rattle.taps.proofs.weighted.quotient.Goals as goal

pub returns-then-abs : goal.returns-then-abs
unfolding quotient
returns-then-abs c = rw (← c.abs.ensures, c.if-abs.true)

pub returns-else-abs : goal.returns-else-abs
unfolding quotient
returns-else-abs c = rw (← c.abs.ensures, c.if-abs.false)
