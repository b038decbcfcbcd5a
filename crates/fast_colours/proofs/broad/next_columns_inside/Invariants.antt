-- `fast_colours::broad::next_columns_inside` meets its contract. The loop's invariant: the first k columns are before
-- the edge, if the answer is still true. Assumes nothing.
use mathlib.Core.Path.{◌≡◌}
use mathlib.Core.Bool.{true}
use Prim.Native.Nat.{ℕ, ◌-◌, ◌≤◌, ◌<◌}
use lib.ListN.{get_or}
use Rattle.fast_colours.proofs.broad.next_columns_inside.Given as goal

abbrev pub invariant-loop-k : goal.invariant-loop-k
invariant-loop-k l = (l.good ≡ true → (i : ℕ) → i < l.k → get_or l.columns i 0 < l.last) × (l.k ≤ l.n)

abbrev pub decreases-loop-k : goal.decreases-loop-k
decreases-loop-k l = l.n - l.k
