-- A NaN is narrowed to the NaN; the rest are numbers. Assumes nothing.
use Rattle.std.proofs.Common.{sym, ap, ◌∙◌}
use lib.Ieee.{of_bits}
use Rattle.exact.proofs.Nan.{from_is_nan}
use Rattle.number.specs.Narrow.{narrow}
use Rattle.number.proofs.NarrowLaws.{narrow_nan}
use Rattle.number.proofs.narrow.narrow.Goals as goal

pub returns-then-is_nan : goal.returns-then-is_nan
unfolding of_bits
returns-then-is_nan c = sym (ap narrow (from_is_nan c.args.x (sym c.is_nan.ensures.value ∙ c.if-is_nan.true)) ∙ narrow_nan)
