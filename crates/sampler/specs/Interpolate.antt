-- The colour at a point of index space: the Rust's `Sampler::interpolate` and `mean`. The cell, the taps from it, their
-- weights, and the weighted mean; one tap alone is its own colour. Specification 9. Assumes nothing.
use Rattle.std.specs.Prelude.{ℕ, List, Float}
use Rattle.picture.specs.At.{at}
use Rattle.taps.specs.Cell.{Cell, cell, fraction}
use Rattle.taps.specs.Interpolation.{interpolation}
use Rattle.taps.specs.declared.interpolation.Interpolation.{Interpolation}
use Rattle.taps.specs.declared.interpolation.Interpolation.TheVariants.{
  Integer,
  Nearest,
  Average,
  Average9,
  Average16,
  Bilinear,
  Catrom,
  Spline,
  Background,
}
use Rattle.taps.specs.Taps.{Plane, side, count, taps}
use Rattle.taps.specs.Weighted.{weighted}
use Rattle.taps.specs.Weights.{weights}
use Rattle.picture.specs.declared.colour.Rgba.{Rgba}

-- the tap at the cell itself
abbrev pub single_tap : Plane → Cell → Rgba
single_tap plane c = plane c.column c.row

-- the weighted mean of the square of taps
abbrev pub several : Interpolation → Plane → Float → Float → Rgba
several i plane x y = weighted (taps plane (cell i x y) (side i)) (weights i (fraction x) (fraction y)) (count i)

abbrev pub interpolated : Interpolation → Plane → Rgba → Float → Float → Rgba
interpolated Integer plane background x y = single_tap plane (cell Integer x y)
interpolated Nearest plane background x y = single_tap plane (cell Nearest x y)
interpolated Average plane background x y = several Average plane x y
interpolated Average9 plane background x y = several Average9 plane x y
interpolated Average16 plane background x y = several Average16 plane x y
interpolated Bilinear plane background x y = several Bilinear plane x y
interpolated Catrom plane background x y = several Catrom plane x y
interpolated Spline plane background x y = several Spline plane x y
interpolated Background plane background x y = background

-- of a picture under a policy, by the interpolation's code
unfoldable pub interpolate : List ℕ → ℕ → ℕ → ℕ → ℕ → ℕ → Rgba → Float → Float → Rgba
interpolate bytes width height channels policy code background x y =
    interpolated (interpolation code) (at bytes width height channels policy background) background x y
