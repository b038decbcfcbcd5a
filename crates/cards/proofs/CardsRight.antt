-- Every row of the table is right: both sides are worked out. Assumes nothing.
use mathlib.Core.Path.{◌≡◌, refl}
use mathlib.Core.Bool.{true}
use mathlib.Core.List.{[], ◌∷◌}
use lib.IntN.{pos, negsuc}
use lib.Ieee.{add, sub, mul, div, neg, sum, round, of_bits, eq, lt, le, of_int, is_nan}
use Rattle.exact.specs.Loop.{turns, up_to}
use Rattle.exact.specs.Table.{first_of}
use Rattle.endian.specs.Bytes.{number_at, store_number}
use Rattle.number.specs.Floor.{floor_i64, floor_f64, floorℤ, in_domain, is_zero}
use Rattle.number.specs.Magnitude as Magnitude
use Rattle.number.specs.Narrow.{narrow}
use Rattle.number.specs.Root as Root
use Rattle.arguments.specs.Method as Method
use Rattle.arguments.specs.Order as Order
use Rattle.arguments.specs.Refusal as Arguments
use Rattle.arguments.specs.Store as Store
use Rattle.fit.specs.Affine as Affine
use Rattle.fit.specs.Barrel as Barrel
use Rattle.inverse.specs.Barrel as Points
use Rattle.fit.specs.Build as Build
use Rattle.linear.specs.Invert as Invert
use Rattle.mappings.specs.Mapping as Mappings
use Rattle.inverse.specs.Inverse as Inverse
use Rattle.point.specs.Point as Point
use Rattle.picture.specs.At.{at}
use Rattle.cubic.specs.Cubic.{catrom, pieces}
use Rattle.policies.specs.Index as Index
use Rattle.sampler.specs.Interpolate.{interpolate}
use Rattle.taps.specs.Interpolation.{interpolation}
use Rattle.policies.specs.Named.{named, policy}
use Rattle.picture.specs.Pixel.{widened, pixel_at}
use Rattle.taps.specs.Taps.{taps}
use Rattle.taps.specs.Weighted.{weighted, mean, added, quotient}
use Rattle.policies.specs.declared.named.Tap.TheVariants as Tap
use Rattle.window.specs.Bestfit as Bestfit
use Rattle.window.specs.Ceil as Ceil
use Rattle.window.specs.Edges as Edges
use Rattle.window.specs.Extent as Extent
use Rattle.window.specs.Window as Window
use Rattle.window.specs.Placed as Placed
use Rattle.distort.specs.Refusal as Refusal
use Rattle.cards.specs.Cards.{
  Named,
  Weights,
  Colour,
  Source,
  table,
  Right,
  on_column,
  on_checker,
  f32_of,
  double,
  half_clear,
  grey_bits,
  image,
  card_of,
  without_rows,
  singular,
  identity,
  nine_pairs,
  f64s,
  barrel_at,
}
use Rattle.exact.specs.Each.{Each}
use Rattle.cards.specs.Cards as Cards

-- ---- the policies' indexes
mirror_1 : on_column 7 (negsuc 0) ≡ Named (Tap.Pixel 0 0)
unfolding named policy Index.in_range Index.mirror Index.tile
mirror_1 = refl

mirror_5 : on_column 7 (negsuc 4) ≡ Named (Tap.Pixel 3 0)
unfolding named policy Index.in_range Index.mirror Index.tile
mirror_5 = refl

mirror+4 : on_column 7 (pos 4) ≡ Named (Tap.Pixel 3 0)
unfolding named policy Index.in_range Index.mirror Index.tile
mirror+4 = refl

mirror+8 : on_column 7 (pos 8) ≡ Named (Tap.Pixel 0 0)
unfolding named policy Index.in_range Index.mirror Index.tile
mirror+8 = refl

tile_1 : on_column 6 (negsuc 0) ≡ Named (Tap.Pixel 3 0)
unfolding named policy Index.in_range Index.tile
tile_1 = refl

tile+4 : on_column 6 (pos 4) ≡ Named (Tap.Pixel 0 0)
unfolding named policy Index.in_range Index.tile
tile+4 = refl

checker_right : on_checker (pos 2) (pos 0) ≡ Named Tap.Background
unfolding named policy Index.in_range Index.tile Index.parity
checker_right = refl

checker_left : on_checker (negsuc 0) (pos 0) ≡ Named Tap.Background
unfolding named policy Index.in_range Index.tile Index.parity
checker_left = refl

checker_corner : on_checker (pos 2) (pos 2) ≡ Named (Tap.Pixel 0 0)
unfolding named policy Index.in_range Index.tile Index.parity
checker_corner = refl

-- ---- the sampler's colours
catrom_0 : Weights (catrom (f32_of 0)) ≡ Weights (f32_of 0 ∷ f32_of 0x3f80_0000 ∷ f32_of 0 ∷ f32_of 0 ∷ [])
unfolding add sub mul div neg sum round of_bits lt le Magnitude.abs pieces
catrom_0 = refl

catrom_half : Weights (catrom (f32_of 0x3f00_0000)) ≡ Weights (f32_of 0xbd80_0000 ∷ f32_of 0x3f10_0000
    ∷ f32_of 0x3f10_0000 ∷ f32_of 0xbd80_0000 ∷ [])
unfolding add sub mul div neg sum round of_bits lt le Magnitude.abs pieces
catrom_half = refl

half_clear_law : Colour (interpolate half_clear 2 1 4 0 5 (grey_bits 0 0) (double 0x3fe0_0000_0000_0000) (double 0)) ≡ Colour
    (grey_bits 0x3f80_0000 0x3f00_0000)
unfolding interpolate interpolation at named policy Index.in_range Index.clamped pixel_at widened number_at store_number
    floor_i64 floor_f64 floorℤ in_domain is_zero narrow taps weighted mean added quotient up_to turns add sub mul div neg
    sum round of_bits of_int lt le Magnitude.abs
half_clear_law = refl

-- ---- the fit, the window and the source point
singular_8 : Cards.Refusal
    (Refusal.refusal (without_rows (image 1 1 4) (card_of Method.affine_projection_code singular 0)))
    ≡ Cards.Refusal 8
unfolding Refusal.refusal first_of Refusal.bad_size Refusal.bad_side Refusal.bad_channels Refusal.bad_stock Refusal.bad_code
    Method.present Arguments.bad_count Arguments.bad_for Refusal.bad_number Arguments.bad_argument Arguments.still_good
    Arguments.good_number Refusal.large Arguments.bad_order Arguments.few_pairs Arguments.pairs_of Method.skip
    Method.least_pairs Refusal.degenerate Refusal.fit_of Build.build Build.made Arguments.arguments_refusal Store.values_of
    Store.keep Store.zero_arguments Store.held_of Store.order_of Affine.fit_affine_projection Invert.invert_affine
    Mappings.solved_or8 Mappings.refused number_at store_number up_to turns add sub mul div neg sum round of_bits lt le
    Magnitude.abs Magnitude.within
singular_8 = refl

identity_box : Cards.Window (Refusal.window_of (image 4 3 48) (card_of Method.affine_projection_code identity 1))
    ≡ Cards.Window
    (Placed.Window 6 5 (negsuc 0) (negsuc 0))
unfolding Refusal.window_of Refusal.fit_of Build.build Build.made Method.present Arguments.bad_count Arguments.bad_for
    Arguments.bad_argument Arguments.still_good Arguments.good_number Arguments.bad_order Arguments.few_pairs
    Arguments.pairs_of Method.skip Method.least_pairs Arguments.arguments_refusal first_of Store.values_of Store.keep
    Store.zero_arguments Store.held_of Store.order_of Affine.fit_affine_projection Invert.invert_affine Mappings.solved_or8
    Mappings.mapping number_at store_number up_to turns add sub mul div neg sum round of_bits of_int lt le Magnitude.abs
    Magnitude.within Magnitude.fmin Magnitude.fmax Window.window Window.judged Window.of_extents Bestfit.bestfit
    Bestfit.affine_found Edges.boxed Edges.grown Edges.unbounded Extent.extent_of Extent.from_to Extent.held
    Extent.at_least_one Extent.good_offset Extent.good_length floorℤ Ceil.ceilℤ is_nan
identity_box = refl

barrel_stays : Source (barrel_at 0x3fe0_0000_0000_0000 0x3fe0_0000_0000_0000
    (Build.build Method.barrel_code (f64s (0 ∷ 0 ∷ 0 ∷ [])) 4 4).mapping) ≡ Source
    (record { u = double 0x3fe0_0000_0000_0000; v = double 0x3fe0_0000_0000_0000; usable = true })
unfolding Build.build Build.made Method.present Arguments.bad_count Arguments.bad_for Arguments.bad_argument
    Arguments.still_good Arguments.good_number Arguments.bad_order Arguments.few_pairs Arguments.pairs_of Method.skip
    Method.least_pairs Arguments.arguments_refusal first_of Store.values_of Store.keep Store.zero_arguments Store.held_of
    Store.order_of Barrel.fit_barrel Barrel.given_or Mappings.mapping number_at store_number up_to turns add sub mul div neg
    sum round of_bits of_int lt le Magnitude.abs Magnitude.within Magnitude.fmin Inverse.inverse Points.barrel_from
    Point.usable Root.root Root.root_of Root.nearest_root Root.whole_root is_nan
barrel_stays = refl

nine_pairs_6 : Cards.Refusal (Refusal.refusal (without_rows (image 1 1 4) (card_of Method.polynomial_code nine_pairs 0)))
    ≡ Cards.Refusal 6
unfolding Refusal.refusal first_of Refusal.bad_size Refusal.bad_side Refusal.bad_channels Refusal.bad_stock Refusal.bad_code
    Method.present Arguments.bad_count Arguments.bad_for Arguments.bad_values Refusal.bad_number Arguments.bad_argument
    Arguments.still_good Arguments.good_number Refusal.large Arguments.bad_order Order.good_order Order.bilinear_order
    Order.degree Store.order_of number_at store_number up_to turns of_bits eq le Magnitude.abs Magnitude.within
nine_pairs_6 = refl

pub cards_right : Each Right table
cards_right = (
  mirror_1,
  (
    mirror_5,
    (
      mirror+4,
      (
        mirror+8,
        (
          tile_1,
          (
            tile+4,
            (
              checker_right,
              (
                checker_left,
                (
                  checker_corner,
                  (
                    catrom_0,
                    (catrom_half, (half_clear_law, (singular_8, (identity_box, (barrel_stays, (nine_pairs_6, tt)))))),
                  ),
                ),
              ),
            ),
          ),
        ),
      ),
    ),
  ),
)
