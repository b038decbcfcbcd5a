-- `number::floor::floor_i64` meets its contract: by the test of the domain. Assumes nothing.
use Rattle.std.proofs.Common.{sym}
use Rattle.number.proofs.FloorLaws.{floor_integer_out}
use Rattle.number.proofs.FloorCode.{inside, outside}
use Rattle.number.proofs.floor.floor_i64.Goals as goal

pub returns-then-not-in_domain : goal.returns-then-not-in_domain
returns-then-not-in_domain c = sym (floor_integer_out c.args.x
    (outside c.args.x c.in_domain.result c.in_domain.ensures
    c.if-not-in_domain.true-raw))

pub floor_i64_within-requires : goal.floor_i64_within-requires
floor_i64_within-requires c =
    inside c.args.x c.in_domain.result c.in_domain.ensures c.if-not-in_domain.false-raw
