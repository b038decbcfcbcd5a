-- The f64 operations, each rounded once, under the field's circled signs, and the constants that several definitions
-- share. A definition that opens this file reads like the code beside it. Specification 4. Assumes nothing.
use Rattle.std.specs.Prelude.{Float}
use Rattle.std.specs.Float.{binary64}
use Rattle.std.specs.Float.Ieee.{of_bits, add, sub, mul, div}

infixl 6 ◌⊕◌ ◌⊖◌
infixl 7 ◌⊗◌ ◌⊘◌
abbrev pub ◌⊕◌ : Float → Float → Float
a ⊕ b = add binary64 a b

abbrev pub ◌⊖◌ : Float → Float → Float
a ⊖ b = sub binary64 a b

abbrev pub ◌⊗◌ : Float → Float → Float
a ⊗ b = mul binary64 a b

abbrev pub ◌⊘◌ : Float → Float → Float
a ⊘ b = div binary64 a b

-- ---- the constants
abbrev pub nought : Float
nought = of_bits binary64 0  -- +0.0

abbrev pub half : Float
half = of_bits binary64 0x3fe0_0000_0000_0000  -- 0.5

abbrev pub one : Float
one = of_bits binary64 0x3ff0_0000_0000_0000  -- 1.0

abbrev pub two : Float
two = of_bits binary64 0x4000_0000_0000_0000  -- 2.0

-- what is below it in magnitude is too small to divide by: a pivot, a determinant, a denominator, a factor, a squared
-- distance
abbrev pub least_divisor : Float
least_divisor = of_bits binary64 0x3d71_9799_812d_ea11  -- 1e-12

-- a usable source point's coordinates are at most this in magnitude
abbrev pub usable_limit : Float
usable_limit = of_bits binary64 0x41d0_0000_0000_0000  -- 2^30
