-- Where an interpolation places its taps for a point at x and y in index space, and the point's fractions.
-- Specification 9. Assumes nothing.
use Rattle.std.specs.Prelude.{ℤ, pos, ◌-ℤ◌, T, Float}
use Rattle.std.specs.Float.{binary64}
use Rattle.std.specs.Float.Ieee.{of_bits}
use Rattle.exact.specs.Double.{◌⊕◌, ◌⊖◌}
use Rattle.exact.specs.Warp.{half}
use Rattle.number.specs.Floor.{floor_i64, floor_f64}
use Rattle.number.specs.Magnitude.{within}
use Rattle.number.specs.Narrow.{narrow}
use Rattle.taps.specs.declared.interpolation.Interpolation.{Interpolation}
use Rattle.taps.specs.declared.interpolation.Interpolation.TheVariants.{
  Integer,
  Nearest,
  Average,
  Average9,
  Average16,
  Bilinear,
  Catrom,
  Spline,
  Background,
}

-- the coordinates that a usable source point leads to: at most 2^30 + 1 in magnitude
abbrev pub index_limit : Float
index_limit = of_bits binary64 0x41d0_0000_0040_0000

abbrev pub Reached : Float → Type 0
Reached x = T (within index_limit x)

-- (x - x.floor()) as f32
abbrev pub fraction : Float → Float
fraction x = narrow (x ⊖ floor_f64 x)

-- (x + 0.5).floor() as i64
abbrev pub rounded : Float → ℤ
rounded x = floor_i64 (x ⊕ half)

-- the first of the columns, or of the rows, that taps come from
abbrev pub first : Interpolation → Float → ℤ
first Integer x = floor_i64 x
first Nearest x = rounded x
first Average x = floor_i64 x
first Average9 x = rounded x -ℤ pos 1
first Average16 x = floor_i64 x -ℤ pos 1
first Bilinear x = floor_i64 x
first Catrom x = floor_i64 x -ℤ pos 1
first Spline x = floor_i64 x -ℤ pos 1
first Background x = floor_i64 x

-- the pair of whole numbers from which the taps are placed
pub record Cell : Type 0 where
  pub column : ℤ
  pub row : ℤ

abbrev pub cell : Interpolation → Float → Float → Cell
cell i x y = record { column = first i x; row = first i y }
