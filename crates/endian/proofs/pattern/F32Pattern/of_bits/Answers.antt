-- `of_bits` of an f32 meets its contract. A pattern above the infinity's, its sign aside, is a NaN's; any other may be
-- made a float. Assumes nothing.
use mathlib.Core.Path.{sym, ◌∙◌}
use lib.Ieee.{binary32}
use Rattle.exact.proofs.Patterns.{pattern_nan, pattern_number}
use Rattle.endian.proofs.Patterns.{nan_pattern}
use Rattle.endian.proofs.pattern.F32Pattern.of_bits.Goals as goal

pub returns-then-bits-gt2139095040 : goal.returns-then-bits-gt2139095040
returns-then-bits-gt2139095040 c = nan_pattern binary32 ∙ sym (pattern_nan binary32 c.args.bits c.if-bits-gt2139095040.true)

pub float_from_bits-result : goal.float_from_bits-result
float_from_bits-result c = pattern_number binary32 c.args.bits c.if-bits-gt2139095040.false
