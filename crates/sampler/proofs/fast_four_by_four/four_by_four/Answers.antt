-- `sampler::fast_four_by_four::four_by_four` meets its contract. The loop's invariant: the sums are the definition's
-- over the rows passed.
use mathlib.Core.Path.{refl, ◌∙◌}
use native.Mathlib.Omega.{arith}
use Rattle.taps.specs.Weights.{products}
use Rattle.taps.proofs.TapsLaws.{none_lined, lined_next, finished}
use Rattle.sampler.specs.FourByFour.{own}
use Rattle.sampler.proofs.FourByFourCode.{row_room, line_lined}
use borrow.Author.Rules.{rules}
use Rattle.sampler.proofs.fast_four_by_four.four_by_four.Goals as goal

pub loop-m-init : goal.loop-m-init
loop-m-init c = (
  c.nothing-s.ensures ∙ none_lined (own c.args.picture.bytes.now c.args.picture.width c.args.picture.channels) _ 4
      (products c.args.wx.now c.args.wy.now),
  search rules,
)

pub line_of-s-requires : goal.line_of-s-requires
line_of-s-requires c =
    row_room _ _ c.loop-m.m c.args.picture.fits c.requires.0 c.requires.1 (omega (arith, c.loop-m-test.true))

pub loop-m-preserved : goal.loop-m-preserved
loop-m-preserved c =
    let l = c.loop-m in (
      lined_next (own c.args.picture.bytes.now c.args.picture.width c.args.picture.channels) _ 4
          (products c.args.wx.now c.args.wy.now) l.m l.s c.line_of-s.result l.invariant.0
          (line_lined c.args.picture.bytes.now c.args.picture.width c.args.picture.channels c.args.i c.args.j
          c.args.wx.now c.args.wy.now l.m (omega (arith, c.loop-m-test.true)) _ _ l.s
          c.line_of-s.result refl refl c.line_of-s.ensures),
      search rules,
    )

pub returns : goal.returns
returns c =
    let l = c.loop-m in
    finished (own c.args.picture.bytes.now c.args.picture.width c.args.picture.channels) _ 4
    (products c.args.wx.now c.args.wy.now) l.m l.s c.mean.result l.invariant.1
    (omega (arith, c.loop-m-test.false)) l.invariant.0 c.mean.ensures
