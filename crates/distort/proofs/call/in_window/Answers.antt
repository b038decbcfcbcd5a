-- `in_window` meets its contract: each way out is the case of the definition that its tests took.
use native.Mathlib.Omega.{arith}
use mathlib.Core.Path.{◌≡◌}
use mir.Syntax.{w64}
use mir.Val.{to_z, of_z}
use borrow.Author.Rules.{rules}
use Rattle.band.specs.Band.{pictured, framed}
use Rattle.picture.proofs.SizeLaws.{channels_range}
use Rattle.distort.proofs.PlacedLaws.{rows_fit, band_fit, rows_out, band_out_law, worked}
use Rattle.distort.proofs.call.in_window.Goals as goal

pub returns-then-bad_rows : goal.returns-then-bad_rows
returns-then-bad_rows c = rows_out _ _ _ _ _ c.bad_rows.ensures c.if-bad_rows.true

pub bad_tray-requires : goal.bad_tray-requires
bad_tray-requires c =
    let r = rows_fit c.args.out.height c.args.rows.first c.args.rows.count c.bad_rows.ensures
    c.if-bad_rows.false in
    let side = c.requires.width_le_largest_side in
    (omega (arith, r, side), (omega (arith, side), (channels_range _ c.requires.channels).1))

pub returns-then-bad_tray : goal.returns-then-bad_tray
returns-then-bad_tray c = band_out_law _ _ _ _ _ c.bad_rows.ensures c.if-bad_rows.false c.bad_tray.ensures c.if-bad_tray.true

pub store_rows-matte_pixels-requires : goal.store_rows-matte_pixels-requires
store_rows-matte_pixels-requires c =
    let r = rows_fit c.args.out.height c.args.rows.first c.args.rows.count c.bad_rows.ensures c.if-bad_rows.false in
    record {
      channels = c.requires.channels;
      width_le_largest_side =
          (c.requires.width_le_largest_side.0, omega (arith, r, c.requires.width_le_largest_side.1));
      band_len = band_fit _ _ c.bad_tray.ensures c.if-bad_tray.false;
    }

pub returns : goal.returns
returns c =
    let a = c.args in
    let x : to_z w64 (of_z w64 a.frame.x) ≡ a.frame.x = search rules in
    let y : to_z w64 (of_z w64 a.frame.y) ≡ a.frame.y = search rules in
    worked (pictured a.picture a.look) (framed a.frame) a.out a.rows _
    c.bad_rows.ensures c.if-bad_rows.false c.bad_tray.ensures c.if-bad_tray.false x y
    c.store_rows-matte_pixels.ensures.0
    c.store_rows-matte_pixels.ensures.1
