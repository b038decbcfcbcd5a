-- The pivot is a row among the n; each way out rewrites with what the calls ensure and with the test that led there.
use Prim.Native.Nat.{◌<◌}
use Rattle.std.proofs.Common.{rules}
use Rattle.linear.specs.Eliminate.{outcome, column}
use Rattle.linear.proofs.EliminateLaws.{pivot_row}
use Rattle.linear.proofs.equations.Equations.clear_column.Goals as goal

pub offset_bounds-self-p : goal.offset_bounds-self-p
offset_bounds-self-p c =
    let h : c.pivot-p.result < c.args.self.now.n = pivot_row _ _ c.pivot-p.ensures (search rules) in search rules

pub bounds-self-p : goal.bounds-self-p
bounds-self-p c =
    let h : c.pivot-p.result < c.args.self.now.n = pivot_row _ _ c.pivot-p.ensures (search rules) in search rules

pub swap-requires : goal.swap-requires
swap-requires c =
    let h : c.pivot-p.result < c.args.self.now.n = pivot_row _ _ c.pivot-p.ensures (search rules) in search rules

pub returns-then-abs-clause-system : goal.returns-then-abs-clause-system
unfolding outcome column
returns-then-abs-clause-system c = rw (← c.pivot-p.ensures, ← c.abs.ensures, c.if-abs.true)

pub returns-clause-system : goal.returns-clause-system
unfolding outcome column
returns-clause-system c = rw (
  c.clear_below.ensures.system,
  c.swap.ensures.system,
  c.swap.ensures.unknowns,
  ← c.pivot-p.ensures,
  ← c.abs.ensures,
  c.if-abs.false,
)
