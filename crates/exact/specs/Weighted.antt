-- What `weighted` of the Rust works out in f32 for the four taps of a cell where all are opaque, so that each alpha is
-- 1. The taps are `Bilinear`'s, in its order: the point's own column and row, the next column, the next row, both. Each
-- sum starts at +0. Assumes nothing.
use Rattle.std.specs.Prelude.{ℕ, ◌^◌, T, Float}
use Rattle.std.specs.Float.{binary32}
use Rattle.std.specs.Float.Ieee.{of_bits, fits}
use Rattle.std.specs.Float.Ieee.Scale.{finite}
use Rattle.exact.specs.Fraction.{Fraction, frac, value, ◌-F◌, ◌*F◌, Within, Unit01}
use Rattle.exact.specs.Single.{◌⊕◌, ◌⊖◌, ◌⊗◌, ◌⊘◌, zero}
pub use Rattle.exact.specs.Single.{one}

-- each tap's weight, at the fractions tx and ty of the point in its cell
abbrev pub w00 : Float → Float → Float
w00 tx ty = (one ⊖ tx) ⊗ (one ⊖ ty)

abbrev pub w10 : Float → Float → Float
w10 tx ty = tx ⊗ (one ⊖ ty)

abbrev pub w01 : Float → Float → Float
w01 tx ty = (one ⊖ tx) ⊗ ty

abbrev pub w11 : Float → Float → Float
w11 tx ty = tx ⊗ ty

-- the same weights, exact
abbrev pub e00 : Fraction → Fraction → Fraction
e00 t s = (frac 1 1 -F t) *F (frac 1 1 -F s)

abbrev pub e10 : Fraction → Fraction → Fraction
e10 t s = t *F (frac 1 1 -F s)

abbrev pub e01 : Fraction → Fraction → Fraction
e01 t s = (frac 1 1 -F t) *F s

abbrev pub e11 : Fraction → Fraction → Fraction
e11 t s = t *F s

-- a sum over the taps
abbrev pub four_sum : Float → Float → Float → Float → Float
four_sum a b c d = zero ⊕ a ⊕ b ⊕ c ⊕ d

abbrev pub weight_sum : Float → Float → Float
weight_sum tx ty = four_sum (w00 tx ty) (w10 tx ty) (w01 tx ty) (w11 tx ty)

-- acc[3], with alphas of 1
abbrev pub alpha_sum : Float → Float → Float
alpha_sum tx ty = four_sum (w00 tx ty ⊗ one) (w10 tx ty ⊗ one) (w01 tx ty ⊗ one) (w11 tx ty ⊗ one)

-- acc[c], for the taps' samples a, b, c, d of one colour
abbrev pub colour_sum : Float → Float → Float → Float → Float → Float → Float
colour_sum tx ty a b c d =
    four_sum (w00 tx ty ⊗ a ⊗ one) (w10 tx ty ⊗ b ⊗ one) (w01 tx ty ⊗ c ⊗ one) (w11 tx ty ⊗ d ⊗ one)

abbrev pub colour : Float → Float → Float → Float → Float → Float → Float
colour tx ty a b c d = colour_sum tx ty a b c d ⊘ alpha_sum tx ty

abbrev pub alpha : Float → Float → Float
alpha tx ty = alpha_sum tx ty ⊘ weight_sum tx ty

-- what a sum has to be above in size, or the Rust answers 0 in place of the quotient
abbrev pub least : Float
least = of_bits binary32 0x3089_705f  -- 1e-9

-- ---- what the bounds speak of
-- n units, one being an ulp just below 1 in f32
abbrev pub units24 : ℕ → Fraction
units24 n = frac n (2 ^ 24)

-- r is an f32 number from 0 to 1
pub record Unit32 (r : Float) : Type 0 where
  pub number : T (finite r)
  pub held : T (fits binary32 r)
  pub unit : Unit01 (value r)

-- and at most e away from X
pub record Sample (r : Float) (X e : Fraction) : Type 0 where
  pub is : Unit32 r
  pub near : Within (value r) X e

-- how far the colour is at most from the exact blend of the same taps at the same fractions
abbrev pub blend_error : Fraction
blend_error = units24 17
