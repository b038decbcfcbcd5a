-- `taps::weighted::weighted` meets its contract. The loop's invariant: the sums are the definition's over the taps
-- passed. Assumes nothing.
use mathlib.Core.Path.{◌≡◌}
use Prim.Native.Nat.{◌≤◌}
use Rattle.taps.specs.Weighted.{tap_sums}
use Rattle.taps.proofs.weighted.weighted.Given as goal

abbrev pub invariant-loop-k : goal.invariant-loop-k
invariant-loop-k l = (l.s ≡ tap_sums l.taps l.weights l.k) × (l.k ≤ l.count)
