-- `probe_sampler::weights::no_fraction` meets its contract: the tests are the definition's.
use mathlib.Core.Path.{refl}
use Rattle.probe_sampler.specs.Weights.{no_fraction}
use Rattle.probe_sampler.proofs.weights.no_fraction.Goals as goal

pub returns : goal.returns
unfolding no_fraction
returns c = refl
