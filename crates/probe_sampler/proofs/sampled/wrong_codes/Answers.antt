-- `probe_sampler::sampled::wrong_codes` meets its contract: a code is refused where it is above the last.
use Rattle.policies.proofs.NamedCode as Policies
use Rattle.taps.proofs.InterpolationCode as Interpolations
use Rattle.probe_sampler.specs.Sampled.{wrong_codes}
use Rattle.probe_sampler.proofs.sampled.wrong_codes.Goals as goal

pub returns : goal.returns
unfolding wrong_codes
returns c = rw (
  c.is_err.ensures.value,
  Policies.refused c.args.policy c.try_from.result c.try_from.ensures,
  c.is_err-2.ensures.value,
  Interpolations.refused c.args.code c.try_from-2.result c.try_from-2.ensures,
)
