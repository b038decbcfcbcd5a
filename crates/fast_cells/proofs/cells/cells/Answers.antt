-- `fast_cells::cells::cells` meets its contract. The loop's invariant: the first k cells are filled in, if the answer
-- is still true, and it is where each point passed.
use mathlib.Core.Path.{sym, ap, ◌∙◌, subst}
use mathlib.Core.Bool.{◌&&◌}
use borrow.Author.Rules.{rules}
use lib.Ieee.{Float}
use Rattle.point.specs.declared.point.Point.{Point}
use Rattle.point.specs.Point.{Whole}
use Rattle.point.proofs.WholeLaws.{point_whole}
use Rattle.fast_cells.specs.Cells.{CellOf}
use Rattle.fast_cells.specs.Inner.{has_cell}
use Rattle.fast_cells.proofs.CellsLaws.{fill_none, fill_more, fill_last, of_point}
use Rattle.fast_cells.proofs.TestLaws.{pass_none, pass_more, pass_last}
use Rattle.fast_cells.proofs.cells.cells.Goals as goal

pub loop-k-init : goal.loop-k-init
loop-k-init c = (
  (fill_none _ _ (search rules) (search rules), fill_none _ _ (search rules) (search rules)),
  (pass_none _ _, search rules),
)

pub cell_of-c-requires : goal.cell_of-c-requires
cell_of-c-requires c = record { whole = subst Whole (sym c.point.ensures) (point_whole _ _); wide_le_widest_reach = c.requires.wide_le_widest_reach }

pub loop-k-preserved : goal.loop-k-preserved
loop-k-preserved c =
    let reach = c.args.reach in
    let e = c.point.ensures in
    let r = c.cell_of-c.result in
    let C = of_point (λ (u : Float). CellOf reach.wide u r.column r.x)
    (λ (v : Float). CellOf reach.high v r.row r.y) e c.cell_of-c.ensures.cell_of in (
      (
        fill_more _ c.loop-k.k (search rules) (λ h. (C h).0) c.loop-k.invariant.0.0,
        fill_more _ c.loop-k.k (search rules) (λ h. (C h).1) c.loop-k.invariant.0.1,
      ),
      (
        pass_more _ _ c.loop-k.k (c.cell_of-c.ensures.inside_value
            ∙ ap (λ (p : Point). has_cell reach.wide p.u && has_cell reach.high p.v) e)
            c.loop-k.invariant.1.0,
        search rules,
      ),
    )

pub returns : goal.returns
returns c = let s = c.loop-k in record {
  cells = λ h. (
    fill_last _ s.k _ _ (search rules) s.invariant.0.0 h,
    fill_last _ s.k _ _ (search rules) s.invariant.0.1 h,
  );
  value = pass_last _ _ s.k _ s.invariant.1.1 s.invariant.1.0;
}
