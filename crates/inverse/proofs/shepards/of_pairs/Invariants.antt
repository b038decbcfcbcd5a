-- `inverse::shepards::of_pairs` meets its contract. The loop's invariant: the sums are the definition's after the pairs
-- passed, none of which was the answer. Assumes nothing.
use mathlib.Core.Path.{◌≡◌}
use Prim.Native.Nat.{◌-◌, ◌≤◌}
use Rattle.exact.specs.Loop.{up_to}
use Rattle.point.specs.Course.{on}
use Rattle.inverse.specs.Shepards.{pair_turn, zero_sums}
use Rattle.inverse.proofs.shepards.of_pairs.Given as goal

abbrev pub invariant-loop-j : goal.invariant-loop-j
invariant-loop-j l = (on (record { su = l.su; sv = l.sv; sw = l.sw }) ≡ up_to (pair_turn l.c l.x l.y) 0 l.j (on zero_sums)) × (l.j ≤ l.n)

abbrev pub decreases-loop-j : goal.decreases-loop-j
decreases-loop-j l = l.n - l.j
