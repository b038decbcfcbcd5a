-- `fast_cells::of_point::cell_of` meets its contract: each coordinate has its part of the cell where both pass.
use Rattle.fast_cells.proofs.CellsLaws.{cell, of_both}
use Rattle.fast_cells.proofs.of_point.cell_of.Goals as goal

pub returns : goal.returns
returns c = let it =
    let p = c.args.p in
    let R = c.requires.wide_le_widest_reach in
    of_both p c.requires.whole c.has_cell.ensures c.has_cell-2.ensures (λ h. h.usable) (λ h. h.usable)
    (cell _ R.0 p.u c.kept-x.ensures.value
    c.column.ensures c.fraction_of.ensures
    c.has_cell.ensures)
    (cell _ R.1 p.v c.kept-y.ensures.value
    c.column-2.ensures c.fraction_of-2.ensures
    c.has_cell-2.ensures) in record { inside_value = it.0; usable_value = it.1.0; cell_of = it.1.1 }
