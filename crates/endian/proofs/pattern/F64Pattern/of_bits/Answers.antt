-- `of_bits` of an f64 meets its contract. A pattern above the infinity's, its sign aside, is a NaN's; any other may be
-- made a float. Assumes nothing.
use mathlib.Core.Path.{sym, ◌∙◌}
use lib.Ieee.{binary64}
use Rattle.exact.proofs.Patterns.{pattern_nan, pattern_number}
use Rattle.endian.proofs.Patterns.{nan_pattern}
use Rattle.endian.proofs.pattern.F64Pattern.of_bits.Goals as goal

pub returns-then-bits-gt9218868437227405312 : goal.returns-then-bits-gt9218868437227405312
returns-then-bits-gt9218868437227405312 c = nan_pattern binary64 ∙ sym (pattern_nan binary64 c.args.bits c.if-bits-gt9218868437227405312.true)

pub float_from_bits-result : goal.float_from_bits-result
float_from_bits-result c = pattern_number binary64 c.args.bits c.if-bits-gt9218868437227405312.false
