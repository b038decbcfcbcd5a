-- The laws of one warp at numbers: a blend whose error is above 4 units, computed, and a sample for which every premise
-- holds. Assumes nothing.
use mathlib.Core.Path.{◌≡◌, refl}
use mathlib.Core.List.{[], ◌∷◌}
use mathlib.Core.Bool.{Bool, true, false, cond}
use lib.IntN.{ℤ, pos, negsuc}
use lib.Dec.{eqb, lit≤, lit<}
use lib.Ieee.{Float, fin, binary32, binary64, of_bits, add, sub, mul, div, fits}
use Rattle.exact.specs.Fraction.{Fraction, frac, value, ◌≤F◌, ◌<F◌, ◌+F◌, ◌-F◌, abs_f, distance}
use Rattle.exact.specs.Surface.{floor_f}
use Rattle.exact.specs.Blend.{blend_f}
use Rattle.exact.specs.Weighted.{colour, units24, blend_error, Unit32, Sample}
use Rattle.exact.specs.Warp.{half, InCell, Coordinate, exact_sample}
use Rattle.exact.proofs.Near.{le_refl, within_same}
use Rattle.exact.proofs.Products.{eq_refl}
use Rattle.exact.proofs.Rounds.{rounds_along}
use Rattle.exact.proofs.Monotone.{rounds_own}
use Rattle.exact.proofs.Cell.{cell_of}
use Rattle.exact.proofs.Warp.{warp_demand}

-- ---- four taps, at the fractions t and s
abbrev t : Float
t = of_bits binary32 0x3e00_e10e  -- 0.1258585

abbrev s : Float
s = of_bits binary32 0x3eb3_976d  -- 0.3507647

abbrev a : Float
a = of_bits binary32 0x3f7e_af1c  -- 0.9948594

abbrev b : Float
b = of_bits binary32 0x3f5c_dd4f  -- 0.8627519

abbrev c : Float
c = of_bits binary32 0x3f78_d802  -- 0.9720460

abbrev d : Float
d = of_bits binary32 0x3f7e_b39c  -- 0.9949281

abbrev taps : Fraction
taps = blend_f (value t ∷ value s ∷ []) (value a ∷ value b ∷ value c ∷ value d ∷ [])

colour_is : colour t s a b c d ≡ fin false 4098139 (negsuc 21)
unfolding of_bits add sub mul div
colour_is = refl

-- the f32 blend is further than 4 units from the exact one, and as near as the law says
far : units24 4 <F distance (value (colour t s a b c d)) taps
unfolding of_bits add sub mul div distance blend_f
far = record { lt = lit< tt }

near : distance (value (colour t s a b c d)) taps ≤F blend_error
unfolding of_bits add sub mul div distance blend_f
near = record { le = lit≤ tt }

-- ---- one sample of a warp: the coordinate 1.75 in both directions, where 1.75 + 2^-26 and 1.75 - 2^-26 are exact
abbrev u : Float
u = of_bits binary64 0x3ffc_0000_0000_0000  -- 1.75

abbrev more : Fraction
more = frac 117440513 67108864

abbrev less : Fraction
less = frac 117440511 67108864

u_more : Coordinate u more
unfolding of_bits distance abs_f
u_more = record { number = tt; near = record { le = lit≤ tt }; small = record { le = lit≤ tt } }

u_less : Coordinate u less
unfolding of_bits distance abs_f
u_less = record { number = tt; near = record { le = lit≤ tt }; small = record { le = lit≤ tt } }

-- 1.75 - 0.5 lies in the cell of 1, at 0.25
quarter : Float
quarter = fin false 1 (negsuc 1)

cell : InCell (sub binary64 u half) (pos 1) quarter
unfolding of_bits sub floor_f quarter fits
cell =
    cell_of (sub binary64 u half) (fin false 1 (pos 0)) tt tt (record { eq = refl }) quarter
    (rounds_along (record { eq = refl }) (rounds_own binary32 quarter tt tt))

-- a column of a between columns of b, taken exactly
picture : ℤ → ℤ → Float
picture (pos n) j = cond (eqb n 1) a b
picture (negsuc n) j = b

a_unit : Unit32 a
unfolding of_bits fits
a_unit = record { number = tt; held = tt; unit = (record { le = lit≤ tt }, record { le = lit≤ tt }) }

b_unit : Unit32 b
unfolding of_bits fits
b_unit = record { number = tt; held = tt; unit = (record { le = lit≤ tt }, record { le = lit≤ tt }) }

picture_unit : (i j : ℤ) → Unit32 (picture i j)
unfolding picture
picture_unit (pos n) j = pick (eqb n 1)
  where
    pick : (q : Bool) → Unit32 (cond q a b)
    pick true = a_unit
    pick false = b_unit
picture_unit (negsuc n) j = b_unit

exact : ℤ → ℤ → Fraction
exact i j = value (picture i j)

own : (i j : ℤ) → Sample (picture i j) (exact i j) (frac 0 1)
unfolding exact
own i j = record {
  is = picture_unit i j;
  near = within_same (value (picture i j)) (value (picture i j)) (frac 0 1)
      (eq_refl (value (picture i j))) (le_refl (frac 0 1) (frac 0 1));
}

sample : Sample (colour quarter quarter (picture (pos 1) (pos 1)) (picture (pos 2) (pos 1)) (picture (pos 1) (pos 2))
    (picture (pos 2) (pos 2))) (exact_sample exact (more -F frac 1 2) (less -F frac 1 2)) (frac 0 1 +F frac 1 524288)
unfolding exact
sample = warp_demand exact (λ i j. (picture_unit i j).unit) (frac 0 1) u u quarter quarter more less (pos 1) (pos 1)
    u_more u_less cell cell picture own
