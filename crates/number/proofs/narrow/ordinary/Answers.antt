-- Rounding 29 digits off the whole pattern rounds them off the significand, and 896 fewer in the field is the other
-- bias (`ordinary_bits`). Assumes nothing.
use Rattle.std.proofs.Common.{ℕ, ◌-◌, sym, ap, ◌∙◌, arith}
use Rattle.number.proofs.NarrowBits.{ordinary_bits, ordinary_least}
use Rattle.number.proofs.narrow.ordinary.Goals as goal

pub overflow_sub-result : goal.overflow_sub-result
overflow_sub-result c = omega (arith, c.closest.ensures, ordinary_least c.args.m c.requires.0)

pub returns : goal.returns
returns c = ap (λ (x : ℕ). x - 0x1c0000000) c.closest.ensures
    ∙ sym (ordinary_bits c.args.m c.requires.0 c.requires.1)
