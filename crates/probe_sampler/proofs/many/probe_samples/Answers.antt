-- `probe_sampler::many::probe_samples` meets its contract: the tests of the domain, then every point.
use mathlib.Core.Path.{sym, ◌∙◌}
use borrow.Author.Tests.{eq-eqb, ne_eqb}
use Rattle.probe_sampler.specs.Many.{probe_samples}
use Rattle.probe_sampler.proofs.SampledLaws.{outside_fit}
use borrow.Author.Rules.{rules}
use Rattle.probe_sampler.proofs.many.probe_samples.Goals as goal

pub returns-then-points-out : goal.returns-then-points-out
unfolding probe_samples
returns-then-points-out c = rw (ne_eqb _ _ c.if-points-out.true)

pub returns-then-unfit_sample : goal.returns-then-unfit_sample
unfolding probe_samples
returns-then-unfit_sample c = rw (eq-eqb _ _ c.if-points-out.false, ← c.unfit_sample.ensures, c.if-unfit_sample.true)

pub sampler_of-s-requires : goal.sampler_of-s-requires
sampler_of-s-requires c =
    let f = outside_fit _ _ _ _ _ _ _ (sym c.unfit_sample.ensures ∙ c.if-unfit_sample.false) in
    record { shaped = f.0; one_pixel = f.1.0 (search rules) }

pub returns : goal.returns
unfolding probe_samples
returns c = rw (
  eq-eqb _ _ c.if-points-out.false,
  ← c.unfit_sample.ensures,
  c.if-unfit_sample.false,
  c.store_samples.ensures,
  c.of_code.ensures,
  c.sampler_of-s.ensures c.args.interpolation,
)
