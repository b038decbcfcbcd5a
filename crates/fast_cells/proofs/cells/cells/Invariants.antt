-- `fast_cells::cells::cells` meets its contract. The loop's invariant: the first k cells are filled in, if the answer
-- is still true, and it is where each point passed. Assumes nothing.
use Prim.Native.Nat.{◌-◌, ◌≤◌}
use Rattle.fast_cells.specs.Inner.{has_cell}
use Rattle.fast_cells.proofs.CellsLaws.{Filling}
use Rattle.fast_cells.proofs.TestLaws.{Passing}
use Rattle.fast_cells.proofs.cells.cells.Given as goal

abbrev pub invariant-loop-k : goal.invariant-loop-k
invariant-loop-k l = (Filling l.wide l.k l.good l.us l.columns l.xs × Filling l.high l.k l.good l.vs l.rows l.ys)
    × (Passing (has_cell l.wide) (has_cell l.high) l.k l.good l.us l.vs × (l.k ≤ l.n))

abbrev pub decreases-loop-k : goal.decreases-loop-k
decreases-loop-k l = l.n - l.k
