-- A turn of the loop is one of the definition's. After a column that gives none, no further step changes that.
use Rattle.std.proofs.Common.{refl, ◌∙◌, ap, rules, ◌+◌}
use Rattle.exact.proofs.Loop.{up_to_none, up_to_next, up_to_last, up_to_stay}
use Rattle.linear.specs.Eliminate.{outcome, column}
use Rattle.linear.proofs.EliminateLaws.{step_stopped, step_done, stopped_stays}
use Rattle.linear.proofs.equations.Equations.eliminate.Goals as goal

pub loop-col-init : goal.loop-col-init
loop-col-init c = record { system = up_to_none _ _ _; unknowns = refl }

pub returns-in_err-clear_column-clause-system : goal.returns-in_err-clear_column-clause-system
unfolding outcome
returns-in_err-clear_column-clause-system c =
    rw c.from_residual.ensures
    (up_to_stay _ _ _ (c.loop-col.col + 1) _ (search rules) (search rules)
    (λ j. stopped_stays _ j)
    (step_stopped _ _ _ (c.clear_column.new.self.a, c.clear_column.new.self.b) (c.in_err-clear_column.ensures.system
    ∙ ap (λ n. column n c.loop-col.col (c.loop-col.self.a, c.loop-col.self.b)) c.loop-col.invariant.unknowns)
    ∙ up_to_next _ _ _ _ (search rules) c.loop-col.invariant.system))

pub loop-col-preserved : goal.loop-col-preserved
loop-col-preserved c = record {
  system = step_done _ _ _ _ (c.in_ok-clear_column.ensures.system
      ∙ ap (λ n. column n c.loop-col.col (c.loop-col.self.a, c.loop-col.self.b)) c.loop-col.invariant.unknowns)
      ∙ up_to_next _ _ _ _ (search rules) c.loop-col.invariant.system;
  unknowns = c.in_ok-clear_column.ensures.unknowns ∙ c.loop-col.invariant.unknowns;
}

pub returns-clause-system : goal.returns-clause-system
unfolding outcome
returns-clause-system c = up_to_last _ _ _ _ _ (search rules) (search rules) c.loop-col.invariant.system
