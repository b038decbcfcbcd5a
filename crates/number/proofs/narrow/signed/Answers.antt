-- The bits of a number are its sign's bit and a pattern, and narrowing goes from pattern to pattern under the same sign
-- (`narrow_bits`). Assumes nothing.
use Rattle.std.proofs.Common.{◌+◌, ◌*◌, ◌/◌, ◌%◌, ◌<◌, T, sym, subst, arith}
use lib.Ieee.{binary64, to_bits, fits}
use lib.Ieee.Bits.{to_bits-lt}
use Rattle.number.proofs.NarrowBits.{bits_le, bits_number, narrow_bits, narrow_no_nan}
use Rattle.number.proofs.narrow.signed.Goals as goal

held : (c : goal.Start) → T (fits binary64 c.args.x)
held c = subst T (sym c.well_formed.0.1) tt

pub pattern-p-requires : goal.pattern-p-requires
pattern-p-requires c = bits_number c.args.x c.requires (held c)

-- the sum has 32 bits
small : (c : goal.After-pattern-p)
    → to_bits binary64 c.args.x / 0x8000000000000000 * 0x80000000 + c.pattern-p.result < 0x100000000
small c =
    let x = c.args.x in
    omega (
      arith,
      c.pattern-p.ensures,
      to_bits-lt binary64 x (held c.before),
      bits_le (to_bits binary64 x % 0x8000000000000000) (bits_number x c.requires (held c.before)),
    )

pub overflow_mul-result : goal.overflow_mul-result
overflow_mul-result c = omega (arith, small c)

pub overflow_add-result : goal.overflow_add-result
overflow_add-result c = omega (arith, small c)

pub overflow_cast-result : goal.overflow_cast-result
overflow_cast-result c = omega (arith, small c)

pub float_from_bits-result : goal.float_from_bits-result
float_from_bits-result c =
    rw c.pattern-p.ensures (narrow_no_nan c.args.x c.requires (held c.before))

pub returns : goal.returns
returns c = rw c.pattern-p.ensures (narrow_bits c.args.x c.requires (held c.before))
