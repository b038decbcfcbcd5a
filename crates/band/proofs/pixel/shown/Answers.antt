-- `band::pixel::shown` meets its contract: each way out is the case of the definition that the mark took.
use mathlib.Core.Path.{◌∙◌}
use Rattle.sampler.proofs.InterpolateCode.{sampled_code}
use Rattle.band.specs.Band.{shown}
use Rattle.band.proofs.pixel.shown.Goals as goal

pub returns-then-p : goal.returns-then-p
unfolding shown
returns-then-p c =
    let l = c.args.look in
    c.interpolate_point.ensures
    ∙ sampled_code (record { picture = c.args.picture; policy = l.policy; background = l.background }) l.interpolation _
    _
    ∙ rw c.if-p.true

pub returns : goal.returns
unfolding shown
returns c = rw c.if-p.false
