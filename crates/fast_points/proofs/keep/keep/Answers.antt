-- `fast_points::keep::keep` meets its contract. The loop's invariant: the first k points are there.
use Rattle.fast_points.proofs.FillLaws.{keep_none, keep_more, keep_last}
use borrow.Author.Rules.{rules}
use Rattle.fast_points.proofs.keep.keep.Goals as goal

pub loop-k-init : goal.loop-k-init
loop-k-init g c = (keep_none _ (search rules) (search rules), search rules)

pub loop-k-preserved : goal.loop-k-preserved
loop-k-preserved g c = (keep_more _ c.loop-k.k c.rule-p.ensures (search rules) c.loop-k.invariant.0, search rules)

pub returns : goal.returns
returns g c = keep_last _ c.loop-k.k _ (search rules) c.loop-k.invariant.0
