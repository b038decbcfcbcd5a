-- `cleared` of an f32 meets its contract. Up to zero the difference 0 - x is exact, and above zero, as at a NaN, x is
-- its own magnitude. Assumes nothing.
use Rattle.std.proofs.Common.{T, sym, subst}
use lib.Ieee.{binary32}
use Rattle.number.proofs.MagnitudeTests.{abs_of_difference, abs_otherwise}
use Rattle.number.proofs.magnitude.F32Signed.cleared.Goals as goal

pub returns-then-self : goal.returns-then-self
returns-then-self c = abs_of_difference binary32 c.args.self (subst T (sym c.well_formed.0.1) tt) c.if-self.true

pub returns-else-self : goal.returns-else-self
returns-else-self c = abs_otherwise binary32 c.args.self c.if-self.false
