-- The orders of a polynomial, as ImageMagick's handbook has them: 1, 1.5, 2, 3, 4 and 5; how many terms each has, and
-- up to which degree. Judged here alone. Specification 3.3. Assumes nothing.
use Rattle.std.specs.Prelude.{ℕ, ◌+◌, ◌*◌, ◌/◌, Bool, ◌||◌, cond, ltb, Float}
use Rattle.std.specs.Float.{binary64}
use Rattle.std.specs.Float.Ieee.{of_bits, eq}
use Rattle.exact.specs.Double.{one, two}

abbrev pub one_and_half : Float
one_and_half = of_bits binary64 0x3ff8_0000_0000_0000  -- 1.5

abbrev pub three : Float
three = of_bits binary64 0x4008_0000_0000_0000  -- 3.0

abbrev pub four : Float
four = of_bits binary64 0x4010_0000_0000_0000  -- 4.0

abbrev pub five : Float
five = of_bits binary64 0x4014_0000_0000_0000  -- 5.0

-- exactly 1.5: the terms 1, x, y, xy
unfoldable pub bilinear_order : Float → Bool
bilinear_order order = eq order one_and_half

-- a whole order from 1 to 5 as a number; 0 for 1.5, which has no degree, and for what is no order
unfoldable pub degree : Float → ℕ
degree order =
    cond (eq order one) 1
    (cond (eq order two) 2
    (cond (eq order three) 3
    (cond (eq order four) 4
    (cond (eq order five) 5
    0))))

-- 1, x, y, xy for the bilinear order, else the monomials up to the degree: 3, 6, 10, 15 or 21
unfoldable pub terms_of : Float → ℕ
unfolding bilinear_order degree
terms_of order = cond (bilinear_order order) 4 ((degree order + 1) * (degree order + 2) / 2)

-- exactly 1, 1.5, 2, 3, 4 or 5
unfoldable pub good_order : Float → Bool
unfolding bilinear_order degree
good_order order = bilinear_order order || ltb 0 (degree order)
