-- `bits` of an f32 meets its contract: of the NaN the code has the pattern as a literal. Assumes nothing.
use mathlib.Core.Path.{sym, ◌∙◌}
use lib.Ieee.{binary32}
use Rattle.exact.proofs.FloatPatterns.{nan_bits}
use Rattle.exact.proofs.Nan.{nan_test}
use Rattle.endian.proofs.pattern.F32Pattern.bits.Goals as goal

pub returns-then-is_nan : goal.returns-then-is_nan
returns-then-is_nan c =
    sym (nan_bits binary32 c.args.self (nan_test c.args.self ∙ sym c.is_nan.ensures.value ∙ c.if-is_nan.true))
