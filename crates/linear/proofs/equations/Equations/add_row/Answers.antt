-- A turn of the loop is one of the definition's.
use Rattle.std.proofs.Common.{refl, ◌∙◌, ap, rules}
use Rattle.exact.proofs.Loop.{up_to_none, up_to_next}
use Rattle.linear.specs.Normal.{add_term}
use Rattle.linear.proofs.equations.Equations.add_row.Goals as goal

pub loop-i-init : goal.loop-i-init
loop-i-init c = record { system = up_to_none _ _ _; unknowns = refl }

pub loop-i-preserved : goal.loop-i-preserved
loop-i-preserved c = record {
  system =
      c.add_term.ensures.system
      ∙ ap (λ n. add_term c.args.row.now c.args.y n c.loop-i.i (c.loop-i.self.a, c.loop-i.self.b))
      c.loop-i.invariant.unknowns
      ∙ up_to_next _ _ _ _ (search rules) c.loop-i.invariant.system;
  unknowns = c.add_term.ensures.unknowns ∙ c.loop-i.invariant.unknowns;
}
