-- A word, a byte at a time: a name or a whole number of 64ths of a pixel, of any length. Digits are digits, leading
-- zeros too, and -0 is 0. Specification 12.1. Assumes nothing.
use Rattle.std.specs.Prelude.{ℕ, ◌+◌, ◌-◌, ◌*◌, ◌/◌, Bool, true, false, cond, eqb, ltb, pos, Float, Option, Some, None}
use Rattle.std.specs.Float.{binary64}
use Rattle.std.specs.Float.Ieee.{of_bits, of_int}
use Rattle.exact.specs.Double.{◌⊖◌, ◌⊘◌, nought}
use Rattle.listing.specs.declared.names.Coordinate.{Coordinate}
use Rattle.listing.specs.declared.names.Coordinate.TheVariants.{U, V, X, Y}
use Rattle.listing.specs.declared.word.Word.{Word}
use Rattle.listing.specs.declared.word.Word.TheVariants.{Empty, Minus, Name, Number, Wrong}

-- the largest number of 64ths: 1,048,576 pixels
abbrev pub largest_number : ℕ
largest_number = 67108864

-- u is 117, v 118, x 120 and y 121; any other byte is no name
unfoldable pub name_of : ℕ → Option Coordinate
name_of b =
    cond (eqb b 117) (Some U) (cond (eqb b 118) (Some V) (cond (eqb b 120) (Some X) (cond (eqb b 121) (Some Y) None)))

-- a number with one digit more. From a tenth of the largest on that is above it, where it stays.
unfoldable pub with_digit : ℕ → ℕ → ℕ
with_digit size d = cond (ltb (largest_number / 10) size) (largest_number + 1) (10 * size + d)

-- a number and one byte more, which has to be a digit, 0 (48) to 9 (57)
unfoldable pub digit : Bool → ℕ → ℕ → Word
digit negative size b = cond (ltb b 48) Wrong (cond (ltb 57 b) Wrong (Number negative (with_digit size (b - 48))))

-- a name, where there is one
abbrev pub named_or : Option Coordinate → Word → Word
named_or (Some c) w = Name c
named_or None w = w

-- the first byte: a minus sign (45), a name, or a digit
unfoldable pub first_byte : ℕ → Word
first_byte b = cond (eqb b 45) Minus (named_or (name_of b) (digit false 0 b))

-- the word with one byte more, which is neither a space nor a line feed
unfoldable pub next : Word → ℕ → Word
next Empty b = first_byte b
next Minus b = digit true 0 b
next (Name c) b = Wrong
next (Number negative size) b = digit negative size b
next Wrong b = Wrong

-- the parts of a pixel that a list counts in
abbrev pub sixty_four : Float
sixty_four = of_bits binary64 0x4050_0000_0000_0000  -- 64.0

-- a number of 64ths in pixels, which is exact; from 0.0 where it is negative, so that -0 is 0
unfoldable pub pixels : Bool → ℕ → Float
pixels negative size =
    let x : Float = of_int binary64 (pos size) ⊘ sixty_four in
    cond negative (nought ⊖ x) x
