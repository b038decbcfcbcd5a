-- `fast_cells::of_point::place_of` meets its contract: each coordinate has its part of the place where both pass.
use Rattle.fast_cells.proofs.CellsLaws.{of_both}
use Rattle.fast_cells.proofs.of_point.place_of.Goals as goal

pub returns : goal.returns
returns g c = let it =
    of_both c.args.p c.requires.whole c.tap-x.ensures.inside c.tap-y.ensures.inside (λ h. h.usable) (λ h. h.usable)
    c.tap-x.ensures.place c.tap-y.ensures.place in record { inside_value = it.0; usable_value = it.1.0; place = it.1.1 }
