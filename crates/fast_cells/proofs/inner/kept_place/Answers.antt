-- `fast_cells::inner::kept_place` meets its contract: u that has a place, less 0.5 and more (`beside_in`), and +0
-- (`beside_out`).
use Rattle.fast_cells.proofs.NearestLaws.{beside_in, beside_out}
use Rattle.fast_cells.proofs.inner.kept_place.Goals as goal

pub returns-then-has_place : goal.returns-then-has_place
returns-then-has_place c = let it =
    beside_in c.args.reach c.requires _ c.has_place.ensures c.if-has_place.true in record { value = it.0; low = it.1 }

pub returns-else-has_place : goal.returns-else-has_place
returns-else-has_place c = let it = beside_out _ _ c.has_place.ensures c.if-has_place.false in record { value = it.0; low = it.1 }
