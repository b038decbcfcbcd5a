-- `sampler::several::mean_of_taps` meets its contract. The loop's invariant: the sums are the definition's over the
-- rows passed.
use mathlib.Core.Path.{◌∙◌}
use Rattle.taps.specs.Sampler.{plane_of}
use Rattle.taps.proofs.TapsLaws.{none_lined, lined_next, finished}
use borrow.Author.Rules.{rules}
use Rattle.sampler.proofs.several.mean_of_taps.Goals as goal

pub loop-j-init : goal.loop-j-init
loop-j-init c = let a = c.args in (
  c.nothing-sums.ensures ∙ none_lined
      (plane_of a.s) _ a.n a.weight.now,
  search rules,
)

pub loop-j-preserved : goal.loop-j-preserved
loop-j-preserved c =
    let a = c.args in (
      lined_next (plane_of a.s) _ a.n
          a.weight.now c.loop-j.j c.loop-j.sums c.line-sums.result
          c.loop-j.invariant.0 c.line-sums.ensures,
      search rules,
    )

pub returns : goal.returns
returns c =
    finished (plane_of c.args.s) _ c.args.n c.args.weight.now c.loop-j.j
    c.loop-j.sums c.mean.result c.loop-j.invariant.1 c.loop-j-test.false
    c.loop-j.invariant.0 c.mean.ensures
