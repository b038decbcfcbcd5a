-- A turn of the loop is one of the definition's.
use Rattle.std.proofs.Common.{refl, rules}
use Rattle.exact.proofs.Loop.{up_to_none, up_to_next}
use Rattle.linear.specs.Normal.{add_product}
use Rattle.linear.proofs.equations.Equations.add_products.Goals as goal

pub loop-k-init : goal.loop-k-init
loop-k-init c = record { matrix = up_to_none _ _ _; sides = refl; unknowns = refl }

pub loop-k-preserved : goal.loop-k-preserved
unfolding add_product
loop-k-preserved c = record {
  matrix = up_to_next _ _ _ _ (search rules) c.loop-k.invariant.matrix;
  sides = c.loop-k.invariant.sides;
  unknowns = c.loop-k.invariant.unknowns;
}
