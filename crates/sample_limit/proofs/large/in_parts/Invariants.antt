-- `in_parts` is its definition. The loop's invariant: what was found among the places passed, of all parts. Assumes
-- nothing.
use mathlib.Core.Path.{◌≡◌}
use Prim.Native.Nat.{◌-◌, ◌≤◌}
use Rattle.sample_limit.specs.Samples.{in_parts}
use Rattle.sample_limit.proofs.large.in_parts.Given as goal

abbrev pub invariant-loop-k : goal.invariant-loop-k
invariant-loop-k l = (l.found ≡ in_parts l.bytes l.m l.k) × (l.k ≤ l.m)

abbrev pub decreases-loop-k : goal.decreases-loop-k
decreases-loop-k l = l.m - l.k
