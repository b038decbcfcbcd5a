-- `taps::cell::fraction` meets its contract: the floor, the difference, which is a number, the narrowing. Assumes
-- nothing.
use Rattle.taps.proofs.CellFloor.{rest_number}
use Rattle.taps.proofs.CellLaws.{reached_domain}
use Rattle.taps.proofs.cell.fraction.Goals as goal

pub floor_within-requires : goal.floor_within-requires
floor_within-requires c = reached_domain c.args.x c.requires

pub narrow_number-requires : goal.narrow_number-requires
narrow_number-requires c = rw c.floor_within.ensures (rest_number c.args.x c.requires)

pub returns : goal.returns
returns c = rw (c.narrow_number.ensures, c.floor_within.ensures)
