-- `fast_cells::inner::has_cell` meets its contract: `reach` is a whole number that an f64 holds.
use native.Mathlib.Nat.{le_trans}
use lib.Dec.{lit≤}
use lib.IntN.{pos}
use lib.Ieee.{binary64}
use Rattle.exact.proofs.Integer.{counted}
use Rattle.fast_cells.proofs.inner.has_cell.Goals as goal

pub int_to_float-result : goal.int_to_float-result
int_to_float-result c = counted binary64 (pos _) (le_trans c.requires (lit≤ tt))
