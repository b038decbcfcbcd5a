-- A turn of the loop is one of the definition's, and the row that stays is one of two among the n.
use Rattle.std.proofs.Common.{◌∙◌, rules}
use mathlib.Core.Path.{sym, subst}
use Prim.Native.Nat.{ℕ, ◌<◌}
use Rattle.exact.proofs.Loop.{up_to_none, up_to_next}
use Rattle.linear.proofs.EliminateLaws.{better_below}
use Rattle.linear.proofs.equations.Equations.pivot.Goals as goal

pub loop-row-init : goal.loop-row-init
loop-row-init c = record { best = up_to_none _ _ _; inside = search rules }

pub loop-row-preserved : goal.loop-row-preserved
loop-row-preserved c = record {
  best = c.better-best.ensures ∙ up_to_next _ _ _ _ (search rules) c.loop-row.invariant.best;
  inside = subst (λ (k : ℕ). k < c.args.self.now.n) (sym c.better-best.ensures)
      (better_below _ _ _ _ _ (search rules) (search rules));
}
