-- `fast_points::barrels::radii_squared` meets its contract. The loop's invariant: the first k offsets and squares are
-- there.
use Rattle.fast_points.proofs.BarrelLaws.{square_none, square_more, square_last}
use borrow.Author.Rules.{rules}
use Rattle.fast_points.proofs.barrels.radii_squared.Goals as goal

pub loop-k-init : goal.loop-k-init
loop-k-init c = (square_none _ _ _ _ (search rules) (search rules), search rules)

pub loop-k-preserved : goal.loop-k-preserved
loop-k-preserved c = (
  square_more _ _ _ _ c.loop-k.k c.pixel_middle.ensures c.from_centre-dx.ensures
      c.radius_squared.ensures (search rules) c.loop-k.invariant.0,
  search rules,
)

pub returns : goal.returns
returns c = square_last _ _ _ _ c.loop-k.k _ (search rules) c.loop-k.invariant.0
