-- `sampler::interpolate::interpolate` meets its contract: the colour by what the codes are read as. A point that can be
-- used, half a pixel back, is within reach.
use mathlib.Core.Path.{◌∙◌}
use Rattle.point.proofs.WholeLaws.{usable_whole}
use Rattle.sampler.proofs.InterpolateCode.{interpolate_code}
use Rattle.sampler.proofs.ReachLaws.{both_reached}
use Rattle.sampler.proofs.interpolate.interpolate.Goals as goal

pub interpolate_at-requires : goal.interpolate_at-requires
interpolate_at-requires c = both_reached _ _ (usable_whole _ c.requires.1 c.requires.0)

pub returns : goal.returns
returns c =
    c.interpolate_at.ensures
    ∙ rw (c.of_code-policy.ensures, c.of_code.ensures) (interpolate_code _ _ _ _ c.args.policy c.args.code _ _ _)
