-- `probe_sampler::weights::probe_cubic` meets its contract: each way out is the case that its tests took.
use mathlib.Core.Path.{sym, ◌∙◌}
use borrow.Author.Tests.{ne_eqb}
use Rattle.taps.specs.Interpolation.{catrom_code, spline_code}
use Rattle.taps.proofs.InterpolationCode.{catrom_only, catrom_read, spline_only, spline_read}
use Rattle.probe_sampler.specs.Weights.{probe_cubic}
use Rattle.probe_sampler.proofs.weights.probe_cubic.Goals as goal

pub returns-then-no_fraction : goal.returns-then-no_fraction
unfolding probe_cubic
returns-then-no_fraction c = rw (← c.of_bits-f.ensures, ← c.no_fraction.ensures, c.if-no_fraction.true)

pub returns-in-Catrom : goal.returns-in-Catrom
unfolding probe_cubic
returns-in-Catrom c = rw (
  ← c.of_bits-f.ensures,
  ← c.no_fraction.ensures,
  c.if-no_fraction.false,
  catrom_only c.args.interpolation (sym c.in-Catrom.ensures),
  c.store_weights.ensures,
  c.cubic_weights.ensures,
  c.row.ensures,
)

pub returns-in-Spline : goal.returns-in-Spline
unfolding probe_cubic
returns-in-Spline c = rw (
  ← c.of_bits-f.ensures,
  ← c.no_fraction.ensures,
  c.if-no_fraction.false,
  spline_only c.args.interpolation (sym c.in-Spline.ensures),
  c.store_weights-in-Spline.ensures,
  c.cubic_weights-in-Spline.ensures,
  c.row-in-Spline.ensures,
)

pub returns-in_default : goal.returns-in_default
unfolding probe_cubic
returns-in_default c = let n = c.args.interpolation in rw (
  ← c.of_bits-f.ensures,
  ← c.no_fraction.ensures,
  c.if-no_fraction.false,
  ne_eqb n catrom_code (λ e. c.in_default.not-Catrom (c.of_code.ensures ∙ catrom_read n e)),
  ne_eqb n spline_code (λ e. c.in_default.not-Spline (c.of_code.ensures ∙ spline_read n e)),
)
