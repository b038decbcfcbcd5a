-- `taps::cell::below` meets its contract: a coordinate that is reached lies in the floor's domain.
use Rattle.taps.proofs.CellLaws.{reached_domain}
use Rattle.taps.proofs.cell.below.Goals as goal

pub floor_i64_within-requires : goal.floor_i64_within-requires
floor_i64_within-requires c = reached_domain c.args.x c.requires
