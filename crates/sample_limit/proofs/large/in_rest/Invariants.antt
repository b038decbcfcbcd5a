-- `in_rest` is its definition. The loop's invariant: what was found already, or among the samples passed. Assumes
-- nothing.
use mathlib.Core.Path.{◌≡◌}
use mathlib.Core.Bool.{Bool, ◌||◌}
use Prim.Native.Nat.{ℕ, ◌-◌, ◌≤◌}
use Rattle.exact.specs.Loop.{up_to}
use Rattle.sample_limit.specs.Samples.{beyond_limit}
use Rattle.sample_limit.proofs.large.in_rest.Given as goal

abbrev pub invariant-loop-k : goal.invariant-loop-k
invariant-loop-k l = (l.found ≡ up_to (λ (k : ℕ) (t : Bool). t || beyond_limit l.bytes k) l.first l.k l.already) × ((l.first ≤ l.k) × (l.k ≤ l.n))

abbrev pub decreases-loop-k : goal.decreases-loop-k
decreases-loop-k l = l.n - l.k
