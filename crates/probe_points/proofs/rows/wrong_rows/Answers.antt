-- `probe_points::rows::wrong_rows` meets its contract: each way out is the definition's first test that holds, or its
-- last (`RowsLaws.antt`). Assumes nothing.
use mathlib.Core.Path.{◌≡◌, sym, ap, ◌∙◌}
use mathlib.Core.Bool.{Bool}
use Prim.Native.Nat.{◌≤◌}
use native.Mathlib.Omega.{arith}
use lib.IntN.{ℤ}
use mir.Syntax.{w64}
use mir.ValLaws.{to_z-of_z}
use Rattle.window.specs.Extent.{good_offset}
use Rattle.probe_points.proofs.RowsLaws.{sized, product, wrong_sides, wrong_across, wrong_down, wrong_ends}
use Rattle.probe_points.proofs.rows.wrong_rows.Goals as goal

-- the answer of `good_offset`, of the number itself
across : {b t : Bool} (z w : ℤ) → b ≡ good_offset z → z ≡ w → b ≡ t → good_offset w ≡ t
across z w e s h = ap good_offset (sym s) ∙ sym e ∙ h

pub returns-then-width-first : goal.returns-then-width-first
returns-then-width-first c = let a = c.args in
    wrong_sides a.width a.x a.y a.first a.rows a.out c.if-width-first.true

pub returns-then-not-good_offset : goal.returns-then-not-good_offset
returns-then-not-good_offset c =
    let a = c.args in
    wrong_across a.width a.x a.y a.first a.rows a.out c.if-width-first.false
    (across _ _ c.good_offset.ensures (to_z-of_z w64 a.x c.ranges.x) c.if-not-good_offset.true)

pub returns-then-not-good_offset-2 : goal.returns-then-not-good_offset-2
returns-then-not-good_offset-2 c =
    let a = c.args in
    wrong_down a.width a.x a.y a.first a.rows a.out c.if-width-first.false
    (across _ _ c.good_offset.ensures (to_z-of_z w64 a.x c.ranges.x)
    c.if-not-good_offset.false)
    (across _ _ c.good_offset-2.ensures (to_z-of_z w64 a.y c.ranges.y) c.if-not-good_offset-2.true)

small : (c : goal.Else-not-good_offset-2) → let a = c.args in (a.width ≤ 4096)
    × (a.first ≤ 4096) × (a.rows ≤ 4096)
small c = let a = c.args in
    sized a.width a.x a.y a.first a.rows a.out c.if-width-first.false

pub returns : goal.returns
returns c =
    let a = c.args in
    wrong_ends a.width a.x a.y a.first a.rows a.out c.if-width-first.false
    (across _ _ c.good_offset.ensures (to_z-of_z w64 a.x c.ranges.x)
    c.if-not-good_offset.false)
    (across _ _ c.good_offset-2.ensures (to_z-of_z w64 a.y c.ranges.y) c.if-not-good_offset-2.false)

pub overflow_add-result : goal.overflow_add-result
overflow_add-result c = let w = small c in omega arith

pub overflow_mul-result : goal.overflow_mul-result
overflow_mul-result c = let a = c.args in
    omega (arith, product a.rows a.width (small c).2 (small c).0)

pub overflow_mul-result-2 : goal.overflow_mul-result-2
overflow_mul-result-2 c = let a = c.args in
    omega (arith, product a.rows a.width (small c).2 (small c).0)
