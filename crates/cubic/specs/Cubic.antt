-- The cubic kernels: the Rust's `cubic_weights`, rounded once per operation in the order written, with the numbers of
-- the lab's manual in place of the arithmetic on B and C. Specification 9.1. Assumes nothing.
use Rattle.std.specs.Prelude.{Bool, not, cond, ◌&&◌, List, [], ◌∷◌, Float}
use Rattle.std.specs.Float.{binary32}
use Rattle.std.specs.Float.Ieee.{neg, of_bits, lt}
use Rattle.exact.specs.Single.{◌⊕◌, ◌⊖◌, ◌⊗◌, ◌⊘◌}
pub use Rattle.exact.specs.Single.{zero, one, two}
use Rattle.number.specs.Magnitude.{abs}
use Rattle.cubic.specs.declared.cubic.CubicRow.{CubicRow}
use Rattle.cubic.specs.declared.cubic.Distances.{Distances}

-- ---- the other constants
abbrev pub three : Float
three = of_bits binary32 0x4040_0000  -- 3.0

abbrev pub four : Float
four = of_bits binary32 0x4080_0000  -- 4.0

abbrev pub six : Float
six = of_bits binary32 0x40c0_0000  -- 6.0

abbrev pub eight : Float
eight = of_bits binary32 0x4100_0000  -- 8.0

abbrev pub nine : Float
nine = of_bits binary32 0x4110_0000  -- 9.0

abbrev pub twelve : Float
twelve = of_bits binary32 0x4140_0000  -- 12.0

abbrev pub fifteen : Float
fifteen = of_bits binary32 0x4170_0000  -- 15.0

abbrev pub twenty_four : Float
twenty_four = of_bits binary32 0x41c0_0000  -- 24.0

-- ---- the printed table: of each kernel, the numbers of its two pieces, all over 6
-- 9, -15, 6 and -3, 15, -24, 12
abbrev pub catrom_row : CubicRow
catrom_row = record {
  near3 = nine;
  near2 = neg fifteen;
  near0 = six;
  far3 = neg three;
  far2 = fifteen;
  far1 = neg twenty_four;
  far0 = twelve;
}

-- 3, -6, 4 and -1, 6, -12, 8
abbrev pub spline_row : CubicRow
spline_row = record {
  near3 = three;
  near2 = neg six;
  near0 = four;
  far3 = neg one;
  far2 = six;
  far1 = neg twelve;
  far0 = eight;
}

-- ---- the two pieces, of a magnitude ax
-- below 1: the cubic, the square and the constant term
abbrev pub near_piece : CubicRow → Float → Float
near_piece row ax = row.near3 ⊗ ax ⊗ ax ⊗ ax ⊕ row.near2 ⊗ ax ⊗ ax ⊕ row.near0

-- from 1 to 2: the cubic, the square, the linear and the constant term
abbrev pub far_piece : CubicRow → Float → Float
far_piece row ax = row.far3 ⊗ ax ⊗ ax ⊗ ax ⊕ row.far2 ⊗ ax ⊗ ax ⊕ row.far1 ⊗ ax ⊕ row.far0

unfoldable pub pieces : CubicRow → Float → Float
pieces row ax = cond (lt ax one) (near_piece row ax) (cond (lt ax two) (far_piece row ax) zero)

-- the kernel, its pieces divided by 6
abbrev pub kernel : CubicRow → Float → Float
kernel row x = pieces row (abs x) ⊘ six

-- the weights of the four taps around a point, t being its fraction between the second and the third
abbrev pub cubic_weights : Float → CubicRow → List Float
cubic_weights t row = kernel row (t ⊕ one) ∷ kernel row t ∷ kernel row (t ⊖ one) ∷ kernel row (t ⊖ two) ∷ []

-- ---- the same with one test for all four
-- how far the four taps lie from the point
abbrev pub distances_of : Float → Distances
distances_of t = record {
  first = abs (t ⊕ one);
  second = abs t;
  third = abs (t ⊖ one);
  fourth = abs (t ⊖ two);
}

-- whether a distance is in the far piece
unfoldable pub outer : Float → Bool
outer ax = not (lt ax one) && lt ax two

-- whether each distance is in its usual piece: the outer two in the far one, the inner two in the near one. All are,
-- but at a cell's ends.
unfoldable pub between : Distances → Bool
between d = (outer d.first && lt d.second one) && (lt d.third one && outer d.fourth)

-- the weights at four distances that are
abbrev pub middle : CubicRow → Distances → List Float
middle row d = (far_piece row d.first ⊘ six) ∷ (near_piece row d.second ⊘ six) ∷ (near_piece row d.third ⊘ six)
    ∷ (far_piece row d.fourth ⊘ six) ∷ []

-- ---- the two kernels
abbrev pub catrom : Float → List Float
catrom t = cubic_weights t catrom_row

abbrev pub spline : Float → List Float
spline t = cubic_weights t spline_row
