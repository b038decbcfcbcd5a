-- `probe_sampler::many::store_samples` meets its contract. The loop's invariant: the points passed are done, and the
-- bytes are as many as before. Assumes nothing.
use mathlib.Core.Path.{◌≡◌}
use Prim.Native.Nat.{◌≤◌}
use lib.ListN.{length}
use Rattle.exact.specs.Loop.{up_to}
use Rattle.sampler.specs.Sampled.{sampled}
use Rattle.probe_sampler.specs.Many.{store_sampled}
use Rattle.probe_sampler.proofs.many.store_samples.Given as goal

abbrev pub invariant-loop-k : goal.invariant-loop-k
invariant-loop-k l = (l.out ≡ up_to (store_sampled (sampled l.s l.i) l.points) 0 l.k l.initial.out)
    × ((length l.out ≡ length l.initial.out) × (l.k ≤ l.n))
