-- The cubic weights at closed fractions, computed: the code's definition and the formula of 1988. Assumes nothing.
use mathlib.Core.Path.{◌≡◌, refl}
use mathlib.Core.List.{[], ◌∷◌}
use lib.Ieee.{binary32, neg, add, sub, sum, mul, div, round, of_bits, lt}
use Rattle.exact.specs.Fraction.{frac, ratio, ◌≈◌, neg_f, ◌+F◌, ◌-F◌, ◌*F◌, abs_f}
use Rattle.exact.specs.Single.{half}
use Rattle.number.specs.Magnitude.{abs}
use Rattle.cubic.specs.Cubic.{zero, one, pieces, catrom, spline}
use Rattle.cubic.specs.Mitchell.{less_f, mitchell}

pub catrom_at_0 : catrom zero ≡ zero ∷ one ∷ zero ∷ zero ∷ []
unfolding pieces abs lt add sub sum mul div neg round of_bits
catrom_at_0 = refl

-- -0.0625, 0.5625
pub catrom_at_half : catrom half ≡ of_bits binary32 0xbd80_0000 ∷ of_bits binary32 0x3f10_0000
    ∷ of_bits binary32 0x3f10_0000 ∷ of_bits binary32 0xbd80_0000 ∷ []
unfolding pieces abs lt add sub sum mul div neg round of_bits
catrom_at_half = refl

-- 1/6, 2/3, 1/6, 0 to the nearest
pub spline_at_0 : spline zero ≡ of_bits binary32 0x3e2a_aaab ∷ of_bits binary32 0x3f2a_aaab ∷ of_bits binary32 0x3e2a_aaab
    ∷ zero ∷ []
unfolding pieces abs lt add sub sum mul div neg round of_bits
spline_at_0 = refl

-- the formula: -1/16 and 9/16
pub exact_outer : mitchell (frac 0 1) (frac 1 2) (frac 3 2) ≈ ratio 0 1 16
unfolding mitchell less_f abs_f neg_f ◌+F◌ ◌-F◌ ◌*F◌
exact_outer = record { eq = refl }

pub exact_inner : mitchell (frac 0 1) (frac 1 2) (ratio 0 1 2) ≈ frac 9 16
unfolding mitchell less_f abs_f neg_f ◌+F◌ ◌-F◌ ◌*F◌
exact_inner = record { eq = refl }

pub exact_spline : mitchell (frac 1 1) (frac 0 1) (frac 0 1) ≈ frac 2 3
unfolding mitchell less_f abs_f neg_f ◌+F◌ ◌-F◌ ◌*F◌
exact_spline = record { eq = refl }
