-- `inverse::polynomial::dots` meets its contract. The loop's invariant: u and v are the sums of the terms passed.
-- Assumes nothing.
use mathlib.Core.Path.{◌≡◌}
use Prim.Native.Nat.{◌-◌, ◌≤◌}
use Rattle.inverse.specs.Polynomial.{dot, of_u, of_v}
use Rattle.inverse.proofs.polynomial.dots.Given as goal

abbrev pub invariant-loop-k : goal.invariant-loop-k
invariant-loop-k l = (l.u ≡ dot l.mono (of_u l.coef) l.k) × ((l.v ≡ dot l.mono (of_v l.coef l.n) l.k) × (l.k ≤ l.n))

abbrev pub decreases-loop-k : goal.decreases-loop-k
decreases-loop-k l = l.n - l.k
