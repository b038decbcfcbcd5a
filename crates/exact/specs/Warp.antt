-- One sample of one warp: where the f32 steps take the point from, and how far the sample may be from the exact one.
-- The point is a coordinate worked in f64, less 0.5, whose floor names the cell and whose rest above the floor,
-- narrowed to f32, is the fraction. Assumes nothing.
use Rattle.std.specs.Prelude.{◌^◌, ◌≡◌, ℤ, Float}
use Rattle.std.proofs.Math.IntN.{suc_ℤ}
pub use Rattle.exact.specs.Double.{half}
use Rattle.exact.specs.Fraction.{Fraction, frac, whole, value, ◌+F◌, ◌*F◌, Within}
use Rattle.exact.specs.Rounds.{Close}
use Rattle.exact.specs.Surface.{floor_f, part_f}
use Rattle.exact.specs.Weighted.{e00, e10, e01, e11, units24, Unit32}

-- half an ulp of f32 and of f64, below 1: the narrowing and the difference from the floor
abbrev pub cell_error : Fraction
cell_error = frac 1 (2 ^ 25) +F frac 1 (2 ^ 54)

-- x lies in the cell of k, at the fraction t. A t of 1 is the cell's far end.
pub record InCell (x : Float) (k : ℤ) (t : Float) : Type 0 where
  pub floor : floor_f (value x) ≡ k
  pub fraction : Unit32 t
  pub near : Within (whole k +F value t) (value x) cell_error

-- three quarters of a unit
abbrev pub coordinate_error : Fraction
coordinate_error = frac 3 (2 ^ 26)

-- u is a number of at most 16,385 in size, and that close to the exact coordinate
abbrev pub Coordinate : Float → Fraction → Type 0
Coordinate u exact = Close u exact coordinate_error (frac 16385 1)

-- how far the point is from the exact one, in each direction: its cell, the difference u - 0.5, which is below 32,768
-- in size, and the coordinate
abbrev pub position_error : Fraction
position_error = cell_error +F (frac 1 (2 ^ 39) +F coordinate_error)

-- what one warp adds to the error at most: the blend, both fractions and both coordinates
abbrev pub warp_error : Fraction
warp_error = units24 20

-- ---- the exact sample: the four taps around the point (x, y), each times its weight
abbrev pub tap_sum : (ℤ → ℤ → Fraction) → ℤ → ℤ → Fraction → Fraction → Fraction
tap_sum a k l t s = e00 t s *F a k l +F e10 t s *F a (suc_ℤ k) l +F e01 t s *F a k (suc_ℤ l)
    +F e11 t s *F a (suc_ℤ k) (suc_ℤ l)

abbrev pub exact_sample : (ℤ → ℤ → Fraction) → Fraction → Fraction → Fraction
exact_sample a x y = tap_sum a (floor_f x) (floor_f y) (part_f x) (part_f y)
