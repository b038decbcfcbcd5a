-- `probe_sampler::sampled::unfit_sample` meets its contract: each way out is the test that it found.
use mathlib.Core.Path.{sym, ◌∙◌}
use native.Mathlib.Omega.{arith}
use Rattle.probe_sampler.specs.Sampled.{unfit_sample}
use Rattle.picture.proofs.SizeLaws.{counted, stock_whole}
use Rattle.probe_sampler.proofs.SampledLaws.{shape_fit}
use Rattle.probe_sampler.proofs.sampled.unfit_sample.Goals as goal

pub returns-then-wrong_picture : goal.returns-then-wrong_picture
unfolding unfit_sample
returns-then-wrong_picture c = rw (← c.wrong_picture.ensures, c.if-wrong_picture.true)

pub returns-then-wrong_codes : goal.returns-then-wrong_codes
unfolding unfit_sample
returns-then-wrong_codes c = rw (
  ← c.wrong_picture.ensures,
  c.if-wrong_picture.false,
  ← c.wrong_codes.ensures,
  c.if-wrong_codes.true,
)

pub overflow_mul-shape : goal.overflow_mul-shape
overflow_mul-shape c = omega (arith, counted _ _ _ (shape_fit _ _ (sym c.wrong_picture.ensures ∙ c.if-wrong_picture.false)).0)

pub overflow_mul-shape-2 : goal.overflow_mul-shape-2
overflow_mul-shape-2 c = omega (arith, counted _ _ _ (shape_fit _ _ (sym c.wrong_picture.ensures ∙ c.if-wrong_picture.false)).0)

pub large-requires : goal.large-requires
large-requires c = omega (arith, stock_whole _ _ _ _ (shape_fit _ _ (sym c.wrong_picture.ensures ∙ c.if-wrong_picture.false)).1)

pub returns-then-large : goal.returns-then-large
unfolding unfit_sample
returns-then-large c =
    rw (
      ← c.wrong_picture.ensures,
      c.if-wrong_picture.false,
      ← c.wrong_codes.ensures,
      c.if-wrong_codes.false,
      ← c.large.ensures,
      c.if-large.true,
    )

pub returns-then-large-2 : goal.returns-then-large-2
unfolding unfit_sample
returns-then-large-2 c =
    rw (
      ← c.wrong_picture.ensures,
      c.if-wrong_picture.false,
      ← c.wrong_codes.ensures,
      c.if-wrong_codes.false,
      ← c.large.ensures,
      c.if-large.false,
      ← c.large-2.ensures,
      c.if-large-2.true,
    )

pub returns-then-far_coordinate : goal.returns-then-far_coordinate
unfolding unfit_sample
returns-then-far_coordinate c =
    rw (
      ← c.wrong_picture.ensures,
      c.if-wrong_picture.false,
      ← c.wrong_codes.ensures,
      c.if-wrong_codes.false,
      ← c.large.ensures,
      c.if-large.false,
      ← c.large-2.ensures,
      c.if-large-2.false,
      ← c.far_coordinate.ensures,
      c.if-far_coordinate.true,
    )

pub returns : goal.returns
unfolding unfit_sample
returns c =
    rw (
      ← c.wrong_picture.ensures,
      c.if-wrong_picture.false,
      ← c.wrong_codes.ensures,
      c.if-wrong_codes.false,
      ← c.large.ensures,
      c.if-large.false,
      ← c.large-2.ensures,
      c.if-large-2.false,
      ← c.far_coordinate.ensures,
      c.if-far_coordinate.false,
    ) c.far_coordinate-2.ensures
