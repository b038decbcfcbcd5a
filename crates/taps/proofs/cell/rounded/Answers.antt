-- `taps::cell::rounded` meets its contract: a coordinate that is reached, and 0.5, lie in the floor's domain. Assumes
-- nothing.
use Rattle.taps.proofs.CellLaws.{rounded_domain}
use Rattle.taps.proofs.cell.rounded.Goals as goal

pub floor_i64_within-requires : goal.floor_i64_within-requires
floor_i64_within-requires c = rounded_domain c.args.x c.requires
