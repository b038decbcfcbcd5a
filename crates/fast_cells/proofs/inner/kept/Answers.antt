-- `fast_cells::inner::kept` meets its contract: u that has a cell less 0.5 (`kept_in`), and +0 (`kept_out`).
use mathlib.Core.Path.{sym, subst}
use lib.Dec.{T}
use Rattle.fast_cells.proofs.InnerLaws.{kept_in, kept_out}
use Rattle.fast_cells.proofs.inner.kept.Goals as goal

pub returns-then-has_cell : goal.returns-then-has_cell
returns-then-has_cell c = let it =
    kept_in c.args.reach c.requires c.args.u (subst T (sym c.well_formed.0.1) tt) c.has_cell.ensures
    c.if-has_cell.true in record { value = it.0; low = it.1 }

pub returns-else-has_cell : goal.returns-else-has_cell
returns-else-has_cell c = let it = kept_out _ _ c.has_cell.ensures c.if-has_cell.false in record { value = it.0; low = it.1 }
