-- `probe_sampler::weights::store_weights` meets its contract: one store after the other.
use Rattle.probe_sampler.proofs.weights.store_weights.Goals as goal

pub returns : goal.returns
returns c = rw (
  c.store_at-4.ensures,
  c.store_at-3.ensures,
  c.store_at-2.ensures,
  c.store_at.ensures,
)
