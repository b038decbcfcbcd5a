-- `fast_cells::cells::places` meets its contract. The loop's invariant: the first k places are filled in,
-- if the answer is still true, and it is where each point passed. Assumes nothing.
use Prim.Native.Nat.{◌-◌, ◌≤◌}
use Rattle.fast_cells.proofs.PlacesLaws.{Placing}
use Rattle.fast_cells.proofs.TestLaws.{Passing}
use Rattle.fast_cells.proofs.cells.places.Given as goal

abbrev pub invariant-loop-k : goal.invariant-loop-k
invariant-loop-k g l = (Placing g.R.Rule.reads l.wide l.k l.good l.us l.columns × Placing g.R.Rule.reads l.high l.k l.good l.vs l.rows)
    × (Passing (g.R.Rule.passes l.wide) (g.R.Rule.passes l.high) l.k l.good l.us l.vs × (l.k ≤ l.n))

abbrev pub decreases-loop-k : goal.decreases-loop-k
decreases-loop-k g l = l.n - l.k
