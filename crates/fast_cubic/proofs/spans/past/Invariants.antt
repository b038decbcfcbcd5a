-- `fast_cubic::spans::past` meets its contract. The loop's invariant: the first k are above 0, if the answer is still
-- true. Assumes nothing.
use mathlib.Core.Path.{◌≡◌}
use mathlib.Core.Bool.{true}
use Prim.Native.Nat.{◌-◌, ◌≤◌}
use Rattle.fast_cubic.specs.FourByFours.{Past}
use Rattle.fast_cubic.proofs.spans.past.Given as goal

abbrev pub invariant-loop-k : goal.invariant-loop-k
invariant-loop-k l = (l.good ≡ true → Past l.k l.cs) × (l.k ≤ l.n)

abbrev pub decreases-loop-k : goal.decreases-loop-k
decreases-loop-k l = l.n - l.k
