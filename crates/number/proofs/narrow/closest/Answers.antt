-- The quotient in the code is the nearest whole number (`closest_quotient`). Assumes nothing.
use Rattle.std.proofs.Common.{sym}
use Rattle.exact.proofs.Closest.{closest_quotient}
use Rattle.number.proofs.narrow.closest.Goals as goal

pub returns : goal.returns
returns c = sym (closest_quotient c.args.a c.args.unit c.requires.0 c.requires.1.0)
