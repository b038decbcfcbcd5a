-- `number::root::guess` is safe: half of a seed's pattern can be taken from the constant, and what is left is below the
-- infinity's pattern. Its result is the float expression that the definition writes out; nothing rests on how close
-- that is. Assumes nothing.
use Rattle.std.proofs.Common.{◌-◌, ◌/◌, arith}
use lib.Ieee.{binary64, to_bits}
use Rattle.exact.proofs.Patterns.{pattern_number}
use Rattle.number.specs.Root.{guess}
use Rattle.number.proofs.root.guess.Goals as goal

pub float_from_bits-y : goal.float_from_bits-y
float_from_bits-y c = pattern_number binary64 (6910404192293093376 - to_bits binary64 c.seed-s.result / 2)
    (omega arith)

pub returns : goal.returns
unfolding guess
returns c = rw (← c.seed-s.ensures.value)
