-- `sampler::fast_bilinear::inside_cell` meets its contract: the weights are those of the fractions.
use mathlib.Core.Path.{◌∙◌}
use Rattle.sampler.proofs.MixedLaws.{mixed_blend, weighed_by}
use Rattle.sampler.proofs.fast_bilinear.inside_cell.Goals as goal

pub returns : goal.returns
returns c =
    c.mixed.ensures ∙ mixed_blend _ _ _ _ _ _ _ c.requires.unit32.0 c.requires.unit32.1
    (weighed_by c.bilinear_weights.ensures)
