-- `probe_points::rows::probe_rows` meets its contract: each way out is the case of the definition that its tests took.
-- Assumes nothing.
use mathlib.Core.Path.{◌≡◌, sym, ◌∙◌}
use mathlib.Core.Bool.{Bool}
use Prim.Native.Nat.{ℕ}
use lib.IntN.{ℤ}
use mir.Syntax.{w64}
use mir.ValLaws.{to_z-of_z}
use borrow.Author.Tests.{ne_eqb}
use Rattle.fit.proofs.BuildLaws.{number_some}
use Rattle.mappings.specs.Mapping.{refused}
use Rattle.probe_points.specs.Rows.{wrong_rows, rows_answer, probe_rows}
use Rattle.probe_points.proofs.RowsLaws.{right}
use Rattle.probe_points.proofs.rows.probe_rows.Goals as goal

-- the answer of `wrong_rows`, of the numbers themselves
read : {b t : Bool} (width first rows out : ℕ) {x y : ℤ} (z w : ℤ) → b ≡ wrong_rows width z w first rows out → z ≡ x
    → w ≡ y → b ≡ t → wrong_rows width x y first rows out ≡ t
read width first rows out z w e s u h = rw (← s, ← u) (sym e ∙ h)

pub returns-in-Err : goal.returns-in-Err
unfolding probe_rows rows_answer refused
returns-in-Err c = rw (← c.in-Err.ensures, c.number.ensures, ne_eqb _ 0 (number_some c.in-Err.r))

pub returns-then-wrong_rows : goal.returns-then-wrong_rows
unfolding probe_rows rows_answer
returns-then-wrong_rows c =
    let a = c.args in
    rw (
      ← c.in-Ok.ensures,
      read a.width a.first a.rows _ _ _ c.wrong_rows.ensures (to_z-of_z w64 a.x c.ranges.x)
          (to_z-of_z w64 a.y c.ranges.y) c.if-wrong_rows.true,
    )

pub invariant_of-frame : goal.invariant_of-frame
invariant_of-frame c =
    let it = right _ _ _ _ _ _ (sym c.wrong_rows.ensures ∙ c.if-wrong_rows.false) in
    record { near = it.1.0 }

pub store_rows_points-requires : goal.store_rows_points-requires
store_rows_points-requires c =
    let it = right _ _ _ _ _ _ (sym c.wrong_rows.ensures ∙ c.if-wrong_rows.false) in
    record { width_le_largest_side = it.0; out_len = it.1.1 }

pub returns : goal.returns
unfolding probe_rows rows_answer
returns c =
    let a = c.args in
    rw (
      ← c.in-Ok.ensures,
      read a.width a.first a.rows _ _ _ c.wrong_rows.ensures (to_z-of_z w64 a.x c.ranges.x)
          (to_z-of_z w64 a.y c.ranges.y) c.if-wrong_rows.false,
      c.store_rows_points.ensures,
      to_z-of_z w64 a.x c.ranges.x,
      to_z-of_z w64 a.y c.ranges.y,
    )
