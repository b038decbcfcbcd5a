-- `probe_points::rows::store_rows_points` meets its contract. The loop's invariant: r rows are written, and the bytes
-- are as many as before. Assumes nothing.
use mathlib.Core.Path.{◌≡◌, ◌∙◌}
use Prim.Native.Nat.{ℕ, ◌+◌, ◌*◌, ◌≤◌}
use native.Mathlib.Nat.{mul-le-mul_right, lt_of_le_of_lt}
use native.Mathlib.Omega.{arith}
use lib.Dec.{lit<}
use borrow.Author.Rules.{rules}
use Rattle.exact.proofs.Loop.{up_to_none, up_to_next, up_to_last}
use Rattle.probe_points.specs.Rows.{store_row}
use Rattle.probe_points.proofs.RowsLaws.{product}
use Rattle.probe_points.proofs.rows.store_rows_points.Goals as goal

pub loop-r-init : goal.loop-r-init
loop-r-init c = (up_to_none _ _ _, search rules)

pub overflow_mul-place : goal.overflow_mul-place
overflow_mul-place c =
    record {
      fits = lt_of_le_of_lt
          (product c.loop-r.r c.args.width
          (few c.loop-r.r c.args.first c.args.rows c.loop-r.invariant.1.1 c.requires.width_le_largest_side.1)
          c.requires.width_le_largest_side.0) (lit< tt);
    }
  where
    few : (r f n : ℕ) → r ≤ n → f + n ≤ 4096 → r ≤ 4096
    few r f n h k = omega arith

pub store_row_points-requires : goal.store_row_points-requires
store_row_points-requires c = record {
  width_le_largest_side = (c.requires.width_le_largest_side.0, search rules);
  width_in_bounds = room c.loop-r.r c.args.rows c.args.width _ _
      (mul-le-mul_right c.args.width (search rules)) c.requires.out_len c.loop-r.invariant.1.0;
}
  where
    room : (r n w l m : ℕ) → (r + 1) * w ≤ n * w → l ≡ n * w * 24 → m ≡ l → (r * w + w) * 24 ≤ m
    room r n w l m h e f = omega arith

pub loop-r-preserved : goal.loop-r-preserved
unfolding store_row
loop-r-preserved c = (
  c.store_row_points.ensures ∙ up_to_next _ _ _ c.loop-r.r (search rules) c.loop-r.invariant.0,
  (c.store_row_points.auto.out ∙ c.loop-r.invariant.1.0, search rules),
)

pub returns : goal.returns
returns c = up_to_last _ _ _ _ _ (search rules) (search rules) c.loop-r.invariant.0
