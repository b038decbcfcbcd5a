-- `probe_points::rows::store_row_points` meets its contract. The loop's invariant: the columns before i are written,
-- and the bytes are as many as before. Assumes nothing.
use mathlib.Core.Path.{◌≡◌, ◌∙◌}
use Prim.Native.Nat.{ℕ, ◌+◌, ◌*◌, ◌≤◌}
use native.Mathlib.Nat.{le_trans}
use native.Mathlib.Omega.{arith}
use borrow.Author.Rules.{rules}
use Rattle.exact.proofs.Loop.{up_to_none, up_to_last}
use Rattle.probe_points.proofs.RowsLaws.{row_more}
use Rattle.probe_points.proofs.rows.store_row_points.Goals as goal

pub loop-i-init : goal.loop-i-init
loop-i-init c = (up_to_none _ _ _, search rules)

pub store_span_points-requires : goal.store_span_points-requires
store_span_points-requires c =
    let n = c.next_span-n.ensures in
    let w : c.loop-i.i + c.next_span-n.result ≤ c.args.width = omega (arith, n.1.0) in
    record {
      n_le_longest_span = (n.1.1.0, (le_trans w c.requires.width_le_largest_side.0, c.requires.width_le_largest_side.1));
      n_in_bounds = room c.args.place (c.loop-i.i + c.next_span-n.result) c.args.width _ _ w
          c.requires.width_in_bounds c.loop-i.invariant.1.0;
    }
  where
    room : (p a b n m : ℕ) → a ≤ b → (p + b) * 24 ≤ n → m ≡ n → (p + a) * 24 ≤ m
    room p a b n m l h e = omega arith

pub loop-i-preserved : goal.loop-i-preserved
loop-i-preserved c = (
  row_more _ c.loop-i.i _ _ c.loop-i.invariant.0 c.store_span_points.ensures,
  (c.store_span_points.auto.out ∙ c.loop-i.invariant.1.0, search rules),
)

pub returns : goal.returns
returns c = up_to_last _ _ _ _ _ (search rules) (search rules) c.loop-i.invariant.0
