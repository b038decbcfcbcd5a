-- `probe_sampler::sampled::store_colour` meets its contract: the colour, stored.
use Rattle.probe_sampler.proofs.sampled.store_colour.Goals as goal

pub interpolate_at-c-requires : goal.interpolate_at-c-requires
interpolate_at-c-requires c = (
  rw c.of_bits.ensures c.requires.reached.0,
  rw c.of_bits-2.ensures c.requires.reached.1,
)

pub returns : goal.returns
returns c = rw (
  c.store_pixel.ensures,
  c.interpolate_at-c.ensures,
  c.of_bits-2.ensures,
  c.of_bits.ensures,
)
