-- `sampler::interpolate::interpolate_point` meets its contract: the colour by the codes of both.
use mathlib.Core.Path.{sym, ◌∙◌}
use Rattle.sampler.proofs.InterpolateCode.{sampled_code}
use Rattle.sampler.proofs.interpolate.interpolate_point.Goals as goal

pub returns : goal.returns
returns c = c.interpolate.ensures ∙ rw (c.code.ensures, c.code-2.ensures) (sym (sampled_code c.args.s c.args.i _ _))
