-- `fast_cubic::kernels::weigh4` meets its contract. The loop's invariant: the first k fractions are weighed, if the
-- answer is still true. Assumes nothing.
use Prim.Native.Nat.{◌-◌, ◌≤◌}
use Rattle.fast_cubic.proofs.KernelLaws.{Weighing4}
use Rattle.fast_cubic.proofs.kernels.weigh4.Given as goal

abbrev pub invariant-loop-k : goal.invariant-loop-k
invariant-loop-k g l = Weighing4 l.row l.k l.good l.ts l.w × (l.k ≤ l.n)

abbrev pub decreases-loop-k : goal.decreases-loop-k
decreases-loop-k g l = l.n - l.k
