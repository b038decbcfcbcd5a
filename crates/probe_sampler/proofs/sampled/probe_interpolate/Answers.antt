-- `probe_sampler::sampled::probe_interpolate` meets its contract: the test of the domain, then the colour, stored.
use mathlib.Core.Path.{sym, ◌∙◌}
use Rattle.probe_sampler.specs.Sampled.{probe_interpolate}
use Rattle.probe_sampler.proofs.SampledLaws.{outside_fit}
use borrow.Author.Rules.{rules}
use Rattle.probe_sampler.proofs.sampled.probe_interpolate.Goals as goal

pub returns-then-unfit_sample : goal.returns-then-unfit_sample
unfolding probe_interpolate
returns-then-unfit_sample c = rw (← c.unfit_sample.ensures, c.if-unfit_sample.true)

pub sampler_of-s-requires : goal.sampler_of-s-requires
sampler_of-s-requires c =
    let f = outside_fit _ _ _ _ _ _ _ (sym c.unfit_sample.ensures ∙ c.if-unfit_sample.false) in
    record { shaped = f.0; one_pixel = f.1.0 (search rules) }

pub store_colour-requires : goal.store_colour-requires
store_colour-requires c =
    let f = outside_fit _ _ _ _ _ _ _ (sym c.unfit_sample.ensures ∙ c.if-unfit_sample.false) in
    record { reached = f.1.1; k_in_bounds = search rules }

pub returns : goal.returns
unfolding probe_interpolate
returns c = rw (
  ← c.unfit_sample.ensures,
  c.if-unfit_sample.false,
  c.store_colour.ensures,
  c.of_code.ensures,
  c.sampler_of-s.ensures c.args.interpolation,
)
