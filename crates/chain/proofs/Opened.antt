-- All that a distort call computes with, named once: under `unfolding opened` a call at numbers is worked out. Assumes
-- nothing.
use lib.Ieee as Ieee
use Rattle.exact.specs.Loop as Loop
use Rattle.exact.specs.Table as Table
use Rattle.endian.specs.Bytes as Bytes
use Rattle.number.specs.Floor as Floor
use Rattle.number.specs.Magnitude as Magnitude
use Rattle.number.specs.Narrow as Narrow
use Rattle.exact.specs.Power as Power
use Rattle.arguments.specs.Method as Method
use Rattle.arguments.specs.Order as Order
use Rattle.arguments.specs.Refusal as Arguments
use Rattle.arguments.specs.Store as Store
use Rattle.fit.specs.Affine as Affine
use Rattle.fit.specs.Build as Build
use Rattle.linear.specs.Eliminate as Eliminate
use Rattle.fit.specs.Fit as Fit
use Rattle.linear.specs.Invert as Invert
use Rattle.mappings.specs.Mapping as Mappings
use Rattle.mappings.specs.Monomials as Monomials
use Rattle.linear.specs.Normal as Normal
use Rattle.fit.specs.Orient as Orient
use Rattle.fit.specs.Perspective as Perspective
use Rattle.linear.specs.Solve as Solve
use Rattle.inverse.specs.Inverse as Inverse
use Rattle.inverse.specs.Perspective as Perspectives
use Rattle.point.specs.Point as Point
use Rattle.inverse.specs.Polynomial as Polynomials
use Rattle.window.specs.Bestfit as Bestfit
use Rattle.window.specs.Edges as Edges
use Rattle.window.specs.Ceil as Ceil
use Rattle.window.specs.Extent as Extent
use Rattle.window.specs.Window as Window
use Rattle.picture.specs.At as At
use Rattle.policies.specs.Index as Index
use Rattle.sampler.specs.Interpolate as Interpolate
use Rattle.taps.specs.Interpolation as Interpolation
use Rattle.policies.specs.Named as Named
use Rattle.picture.specs.Pixel as Pixel
use Rattle.policies.specs.Random as Random
use Rattle.picture.specs.Store as Stored
use Rattle.taps.specs.Taps as Taps
use Rattle.taps.specs.Weighted as Weighted
use Rattle.band.specs.Band as Band
use Rattle.band.specs.Joined as Joined
use Rattle.distort.specs.Refusal as Refusal
use Rattle.distort.specs.Call.{left, answer, rows_of, matte_pixels_of}
use Rattle.distort.specs.Refusal.{refusal}

unfoldable pub opened : Unit {0}
unfolding left answer matte_pixels_of Joined.totalled Band.row_matte_pixels Band.rows_matte_pixels rows_of refusal
    Table.first_of Refusal.bad_size Refusal.bad_side Refusal.bad_channels Refusal.bad_stock Refusal.bad_code Method.present
    Arguments.bad_count Arguments.bad_for Arguments.bad_values Refusal.bad_number Arguments.bad_argument Loop.up_to
    Arguments.still_good Arguments.good_number Magnitude.within Ieee.le Magnitude.abs Ieee.of_bits Bytes.number_at
    Refusal.large Arguments.bad_order Arguments.few_pairs Arguments.pairs_of Method.skip Method.least_pairs Store.order_of
    Refusal.degenerate Refusal.fit_of Build.build Arguments.arguments_refusal Store.values_of Store.zero_arguments
    Store.held_of Store.keep Affine.fit_affine_projection Affine.shift Affine.fit_affine Invert.invert_affine Invert.invert3
    Mappings.solved_or8 Mappings.mapping Refusal.bad_window Refusal.window_of Window.window Window.of_extents Extent.held
    Refusal.bad_rows Refusal.bad_tray Refusal.widest Ieee.sub Ieee.mul Extent.good_offset Extent.good_length Pixel.pixel_at
    Pixel.widened Ieee.add Ieee.div Ieee.of_int Ieee.to_bits Ieee.lt Ieee.is_nan Band.shown Band.row_bytes Band.rows_bytes
    Joined.joined At.at Index.in_range Index.clamped Index.tile Index.mirror Interpolate.interpolate
    Interpolation.interpolation Named.policy Named.picked Named.named Stored.narrowed Stored.store_pixel Taps.taps
    Weighted.added Weighted.quotient Weighted.mean Weighted.weighted Inverse.inverse Point.usable Floor.floor_i64
    Floor.floor_f64 Floor.floorℤ Floor.in_domain Floor.is_zero Narrow.narrow Bytes.store_number
    Perspective.fit_perspective_projection Orient.orient Perspectives.perspective Eliminate.better Eliminate.take_term
    Eliminate.clear_row Eliminate.column Eliminate.column_or Eliminate.outcome Fit.both Monomials.push Monomials.of_degree
    Monomials.monomials Monomials.store_term Normal.add_product Normal.add_term Normal.normal Normal.lstsq Normal.in_turn
    Solve.add_known Solve.substitute Solve.solved Polynomials.polynomial
    Polynomials.terms Bytes.twos_complement Magnitude.reaching Loop.down_to Random.mix Random.folded Order.terms_of
    Order.good_order Power.power Perspective.fit_perspective Perspective.add_part Window.judged Bestfit.bestfit
    Bestfit.affine_found Bestfit.perspective_found Edges.boxed Edges.grown Edges.unbounded Magnitude.fmin Magnitude.fmax
    Extent.extent_of Ceil.ceilℤ
opened = tt
