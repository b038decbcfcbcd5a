-- `bits_within` of an f64 meets its contract: without signs the order of floats is the order of their patterns. Assumes
-- nothing.
use lib.Ieee.{binary64}
use Rattle.number.proofs.MagnitudeTests.{within_bits}
use Rattle.endian.proofs.pattern.F64Pattern.bits_within.Goals as goal

pub returns : goal.returns
returns c = within_bits binary64 c.args.bits c.args.limit c.requires
