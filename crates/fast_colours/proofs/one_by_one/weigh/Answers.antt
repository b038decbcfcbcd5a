-- `fast_colours::one_by_one::weigh` meets its contract. The loop's invariant: the first k points are weighed.
use borrow.Author.Rules.{rules}
use Rattle.sampler.proofs.MixedLaws.{weighed_by}
use Rattle.fast_colours.proofs.InsideSpanLaws.{weigh_none, weigh_more, weigh_last}
use Rattle.fast_colours.proofs.one_by_one.weigh.Goals as goal

pub loop-k-init : goal.loop-k-init
loop-k-init c = (weigh_none c.sized.ensures, search rules)

pub loop-k-preserved : goal.loop-k-preserved
loop-k-preserved c = (
  weigh_more c.loop-k.k (search rules) (weighed_by c.bilinear_weights-c.ensures) c.loop-k.invariant.0,
  search rules,
)

pub returns : goal.returns
returns c = weigh_last c.loop-k.k _ (search rules) c.loop-k.invariant.0
