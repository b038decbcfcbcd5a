-- Each range by its own function; from 2 ^ 128 on it is the infinity (`over_bits`). Assumes nothing.
use Rattle.std.proofs.Common.{sym, arith}
use Rattle.number.proofs.NarrowBits.{over_bits}
use Rattle.number.proofs.narrow.pattern.Goals as goal
use Rattle.number.proofs.narrow.pattern.Goals.{else-m-ge-LEAST_NORMAL-via-then-m-ge-LEAST_NORMAL+else-m-lt-PAST_LARGEST as ended, else-m-ge-LEAST_NORMAL-via-else-m-ge-LEAST_NORMAL as passed}

pub returns-else-m-lt-LEAST_NORMAL : goal.returns-else-m-lt-LEAST_NORMAL
returns-else-m-lt-LEAST_NORMAL c = sym (over_bits c.args.m
    (elim c.else-m-ge-LEAST_NORMAL.branch [
      | ended w ↦ w.if-m-lt-PAST_LARGEST.false
      | passed w ↦ omega arith
    ]) c.requires)
