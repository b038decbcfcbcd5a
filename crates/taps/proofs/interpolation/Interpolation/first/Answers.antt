-- `Interpolation::first` meets its contract: the whole number below or next to the point is small enough to step back
-- from.
use Rattle.taps.proofs.CellLaws.{floor_small, rounded_small}
use Rattle.taps.proofs.SignedCode.{asked}
use Rattle.taps.proofs.interpolation.Interpolation.first.Goals as goal

pub before-requires : goal.before-requires
before-requires c = let r = c.rounded-in-Average9 in
    asked 2147483648 r.result r.type_inv r.ensures (rounded_small _ c.requires)

pub before-requires-in-Average16 : goal.before-requires-in-Average16
before-requires-in-Average16 c = let r = c.below in
    asked 2147483648 r.result r.type_inv r.ensures (floor_small _ c.requires)
