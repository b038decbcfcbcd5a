-- `fast_points::barrels::roots` meets its contract. The loop's invariant: the first k roots are there.
use Rattle.fast_points.proofs.BarrelLaws.{each_none, each_more, each_last}
use borrow.Author.Rules.{rules}
use Rattle.fast_points.proofs.barrels.roots.Goals as goal

pub loop-k-init : goal.loop-k-init
loop-k-init c = (each_none _ _ (search rules), search rules)

pub loop-k-preserved : goal.loop-k-preserved
loop-k-preserved c =
    (each_more _ _ c.loop-k.k c.root_by.ensures (search rules) c.loop-k.invariant.0, search rules)

pub returns : goal.returns
returns c = each_last _ _ c.loop-k.k _ (search rules) c.loop-k.invariant.0
