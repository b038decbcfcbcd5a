-- `probe_sampler::sampled::sampler_of` meets its contract: the picture, the policy and the background are those handed
-- in.
use mathlib.Core.Path.{◌∙◌}
use Rattle.sampler.proofs.InterpolateCode.{sampled_parts}
use Rattle.probe_sampler.proofs.sampled.sampler_of.Goals as goal

pub returns : goal.returns
returns c code =
    let p = c.new.ensures in
    let q = c.new-2.ensures in
    sampled_parts (record { picture = c.new.result; policy = c.of_code.result; background = c.pixel_at.result })
    c.args.policy code
    p.same_bytes p.same_shape.0 p.same_shape.1.0 p.same_shape.1.1 c.of_code.ensures
    (c.pixel_at.ensures ∙ rw (q.same_bytes, q.same_shape.0, q.same_shape.1.1))
