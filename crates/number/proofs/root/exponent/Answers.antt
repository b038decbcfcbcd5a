-- `number::root::exponent` meets its contract, by its one test. Assumes nothing.
use Rattle.std.proofs.Common.{le-ltb, lt-ltb}
use Rattle.number.proofs.root.exponent.Goals as goal

pub returns-then-bits-lt-DIGITS : goal.returns-then-bits-lt-DIGITS
returns-then-bits-lt-DIGITS c = simp (lt-ltb _ _ c.if-bits-lt-DIGITS.true)

pub returns-else-bits-lt-DIGITS : goal.returns-else-bits-lt-DIGITS
returns-else-bits-lt-DIGITS c = simp (le-ltb _ _ c.if-bits-lt-DIGITS.false)
