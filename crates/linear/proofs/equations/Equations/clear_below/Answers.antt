-- A turn of the loop is one of the definition's.
use Rattle.std.proofs.Common.{refl, ◌∙◌, ap, rules}
use Rattle.exact.proofs.Loop.{up_to_none, up_to_next}
use Rattle.linear.specs.Eliminate.{clear_row}
use Rattle.linear.proofs.equations.Equations.clear_below.Goals as goal

pub loop-row-init : goal.loop-row-init
loop-row-init c = record { system = up_to_none _ _ _; unknowns = refl }

pub loop-row-preserved : goal.loop-row-preserved
loop-row-preserved c = record {
  system =
      c.clear_row.ensures.system
      ∙ ap (λ n. clear_row n c.args.col c.loop-row.row (c.loop-row.self.a, c.loop-row.self.b))
      c.loop-row.invariant.unknowns
      ∙ up_to_next _ _ _ _ (search rules) c.loop-row.invariant.system;
  unknowns = c.clear_row.ensures.unknowns ∙ c.loop-row.invariant.unknowns;
}
