-- `fast_cells::cells::places` meets its contract. The loop's invariant: the first k places are filled in,
-- if the answer is still true, and it is where each point passed.
use mathlib.Core.Path.{sym, ap, ◌∙◌, subst}
use mathlib.Core.Bool.{◌&&◌}
use borrow.Author.Rules.{rules}
use lib.Ieee.{Float}
use Rattle.point.specs.declared.point.Point.{Point}
use Rattle.point.specs.Point.{Whole}
use Rattle.point.proofs.WholeLaws.{point_whole}
use Rattle.fast_cells.specs.Cells.{Place}
use Rattle.fast_cells.proofs.CellsLaws.{of_point}
use Rattle.fast_cells.proofs.PlacesLaws.{place_none, place_more, place_last}
use Rattle.fast_cells.proofs.TestLaws.{pass_none, pass_more, pass_last}
use Rattle.fast_cells.proofs.cells.places.Goals as goal

pub loop-k-init : goal.loop-k-init
loop-k-init g c = ((place_none _ _ _ (search rules), place_none _ _ _ (search rules)), (pass_none _ _, search rules))

pub place_of-c-requires : goal.place_of-c-requires
place_of-c-requires g c = record { whole = subst Whole (sym c.point.ensures) (point_whole _ _); wide_le_widest_reach = c.requires.wide_le_widest_reach }

pub loop-k-preserved : goal.loop-k-preserved
loop-k-preserved g c =
    let reach = c.args.reach in
    let e = c.point.ensures in
    let r = c.place_of-c.result in
    let C = of_point (λ (u : Float). Place g.R.Rule.reads reach.wide u r.column)
    (λ (v : Float). Place g.R.Rule.reads reach.high v r.row) e c.place_of-c.ensures.place in (
      (
        place_more _ _ c.loop-k.k (search rules) (λ h. (C h).0) c.loop-k.invariant.0.0,
        place_more _ _ c.loop-k.k (search rules) (λ h. (C h).1) c.loop-k.invariant.0.1,
      ),
      (
        pass_more _ _ c.loop-k.k (c.place_of-c.ensures.inside_value
            ∙ ap (λ (p : Point). g.R.Rule.passes reach.wide p.u && g.R.Rule.passes reach.high p.v) e)
            c.loop-k.invariant.1.0,
        search rules,
      ),
    )

pub returns : goal.returns
returns g c = let s = c.loop-k in record {
  places = λ h. (
    place_last _ _ s.k _ _ (search rules) s.invariant.0.0 h,
    place_last _ _ s.k _ _ (search rules) s.invariant.0.1 h,
  );
  value = pass_last _ _ s.k _ s.invariant.1.1 s.invariant.1.0;
}
