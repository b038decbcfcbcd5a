-- `rows::rows::store_row` meets its contract. The loop's invariant: the row's pixels passed are in the band, and the
-- matte ones among them are counted.
use mathlib.Core.Path.{◌∙◌}
use Prim.Native.Nat.{◌+◌, ◌-◌}
use native.Mathlib.Nat.{le_antisymm}
use native.Mathlib.Omega.{arith}
use borrow.Author.Rules.{rules}
use Rattle.std.proofs.Common.{◌≡◌, ℕ, ◌<◌, ◌≤◌}
use Rattle.std.specs.Prelude.{min}
use Rattle.band.specs.Band.{framed, point_at, row_bytes, row_matte_pixels}
use Rattle.band.proofs.RowLaws.{row_start, row_done, bit_most}
use Rattle.rows.proofs.SpanLaws.{row_part, within_row, part_most}
use Rattle.rows.proofs.rows.store_row.Goals as goal

pub loop-i-init : goal.loop-i-init
loop-i-init c =
    let a = c.args in
    row_start c.requires.channels_in_bounds (λ k. bit_most (point_at (framed a.frame) k a.row.j).usable)

pub overflow_add-matte_pixels : goal.overflow_add-matte_pixels
overflow_add-matte_pixels c =
    let H = c.loop-i.invariant in
    record {
      fits = omega (
        arith,
        H.few,
        H.most,
        part_most c.loop-i.i c.next_span-n.result H.ones c.store_span-matte_pixels.ensures.0,
        c.next_span-n.ensures.1.1.0,
        c.requires.width_le_largest_side.0,
      );
    }

-- a span that is not the last is whole, and the last is what is left
whole : (n i w : ℕ) → n ≡ min (w - i) 64 → 64 < w - i → n ≡ 64
whole n i w e h = omega arith

rest : (n i w : ℕ) → n ≡ min (w - i) 64 → i < w → w - i ≤ 64 → i + n ≡ w
rest n i w e h l = omega arith

pub loop-i-preserved : goal.loop-i-preserved
loop-i-preserved c =
    let n = c.next_span-n in
    let H = row_part c.loop-i.invariant n.result
    (within_row c.loop-i.i n.result c.args.out.width (search rules) n.ensures.1.0)
    c.store_span-matte_pixels.ensures.0 c.store_span-matte_pixels.ensures.1 in
    rw (whole n.result c.loop-i.i c.args.out.width n.ensures.1.1.1 (search rules)) at H

pub returns : goal.returns
unfolding row_bytes row_matte_pixels
returns c =
    let H = c.loop-i.invariant in (
      H.count ∙ rw (le_antisymm H.most (search rules)),
      row_done c.requires.channels_in_bounds H (le_antisymm H.most (search rules)),
    )

pub returns-2 : goal.returns-2
unfolding row_bytes row_matte_pixels
returns-2 c =
    let n = c.next_span-n in
    let e = rest n.result c.loop-i.i c.args.out.width n.ensures.1.1.1 (search rules) (search rules) in
    let H = row_part c.loop-i.invariant n.result
    (within_row c.loop-i.i n.result c.args.out.width (search rules) n.ensures.1.0)
    c.store_span-matte_pixels.ensures.0 c.store_span-matte_pixels.ensures.1 in (
      H.count ∙ rw e,
      row_done c.requires.channels_in_bounds H e,
    )
