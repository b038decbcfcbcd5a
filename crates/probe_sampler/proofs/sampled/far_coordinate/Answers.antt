-- `probe_sampler::sampled::far_coordinate` meets its contract: the test on the bits.
use Rattle.probe_sampler.specs.Sampled.{far_coordinate}
use Rattle.probe_sampler.proofs.sampled.far_coordinate.Goals as goal

pub returns : goal.returns
unfolding far_coordinate
returns c = rw c.bits_within.ensures
