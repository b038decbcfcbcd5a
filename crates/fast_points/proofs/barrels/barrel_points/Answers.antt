-- `fast_points::barrels::barrel_points` meets its contract: its steps together are the points (`BarrelLaws.antt`).
use borrow.Author.Rules.{rules}
use Rattle.fast_points.proofs.BarrelLaws.{barrel_span}
use Rattle.fast_points.proofs.barrels.barrel_points.Goals as goal

pub returns : goal.returns
returns g c = let a = c.args in
    barrel_span (goal.F-post g a.from) a.coef.now a.x a.y a.first a.n c.from_centre-dy.ensures
    c.radii_squared.ensures c.roots.ensures (λ k h p e. search rules) c.keep.ensures
