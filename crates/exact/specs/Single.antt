-- The f32 operations, each rounded once, under the field's circled signs, and the constants that several definitions
-- share. A definition that opens this file reads like the code beside it. Specification 4. Assumes nothing.
use Rattle.std.specs.Prelude.{Float}
use Rattle.std.specs.Float.{binary32}
use Rattle.std.specs.Float.Ieee.{of_bits, add, sub, mul, div}

infixl 6 ◌⊕◌ ◌⊖◌
infixl 7 ◌⊗◌ ◌⊘◌
abbrev pub ◌⊕◌ : Float → Float → Float
a ⊕ b = add binary32 a b

abbrev pub ◌⊖◌ : Float → Float → Float
a ⊖ b = sub binary32 a b

abbrev pub ◌⊗◌ : Float → Float → Float
a ⊗ b = mul binary32 a b

abbrev pub ◌⊘◌ : Float → Float → Float
a ⊘ b = div binary32 a b

-- ---- the constants
abbrev pub zero : Float
zero = of_bits binary32 0  -- +0.0

abbrev pub half : Float
half = of_bits binary32 0x3f00_0000  -- 0.5

abbrev pub one : Float
one = of_bits binary32 0x3f80_0000  -- 1.0

abbrev pub two : Float
two = of_bits binary32 0x4000_0000  -- 2.0
