-- `sampler::fast_bilinear::blended` meets its contract: a loop over four taps is the sums written out.
use mathlib.Core.Path.{sym, ap}
use mathlib.Core.List.{[], ◌∷◌}
use Rattle.taps.specs.Weighted.{mean, weighted}
use Rattle.taps.specs.Weights.{four_weights}
use Rattle.taps.proofs.WeightedOpaque.{summed_four}
use Rattle.sampler.proofs.fast_bilinear.blended.Goals as goal

pub returns : goal.returns
unfolding weighted
returns c =
    let a = c.args in
    rw (
      c.mean.ensures,
      c.added-3.ensures,
      c.added-2.ensures,
      c.added-s.ensures,
      c.added.ensures,
      c.nothing.ensures,
      c.bilinear_weights-w.ensures,
    )
    (sym (ap mean (summed_four (a.a ∷ a.b ∷ a.c ∷ a.d ∷ []) (four_weights a.tx a.ty))))
