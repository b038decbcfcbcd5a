-- `fast_cells::inner::narrow_short` meets its contract: what is left of the pattern is that of the f32 next to d
-- (`short_cut`).
use Rattle.fast_cells.proofs.ShortLaws.{short_bits, short_plain, short_held, short_cut}
use Rattle.fast_cells.proofs.inner.narrow_short.Goals as goal

pub float_from_bits-result : goal.float_from_bits-result
float_from_bits-result c = rw c.without_low_digits.ensures (short_plain _ c.requires)

pub float_to_float-result : goal.float_to_float-result
float_to_float-result c = rw c.without_low_digits.ensures (short_held _ c.requires)

pub returns : goal.returns
returns c = rw c.without_low_digits.ensures (short_cut _ c.requires)

pub without_low_digits-requires : goal.without_low_digits-requires
without_low_digits-requires c = short_bits _ c.requires
