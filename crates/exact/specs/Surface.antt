-- The exact surface between values at whole numbers: linear in one dimension, bilinear in two. Each index names one
-- value for good, so the surface is defined over the whole plane and is continuous across cells. Assumes nothing.
use Rattle.std.specs.Prelude.{◌+◌, ◌-◌, ◌/◌, cond, leb, ℤ, pos, neg_ℤ}
use Rattle.std.proofs.Math.IntN.{suc_ℤ}
use Rattle.exact.specs.Fraction.{Fraction, over, frac, whole, ◌+F◌, ◌-F◌, ◌*F◌}

-- the largest whole number that is at most x
unfoldable pub floor_f : Fraction → ℤ
floor_f x =
    cond (leb x.minus x.plus)
    (pos ((x.plus - x.minus) / over x))
    (neg_ℤ (pos ((x.minus - x.plus + x.under) / over x)))

-- what is left of x above it: from 0 to below 1
unfoldable pub part_f : Fraction → Fraction
unfolding floor_f ◌-F◌
part_f x = x -F whole (floor_f x)

-- (1 - t) a + t b
unfoldable pub mix_f : Fraction → Fraction → Fraction → Fraction
unfolding ◌-F◌ ◌*F◌ ◌+F◌
mix_f t a b = (frac 1 1 -F t) *F a +F t *F b

-- the line between the values a k and a (k + 1), where x lies
unfoldable pub lin : (ℤ → Fraction) → Fraction → Fraction
unfolding mix_f floor_f part_f
lin a x = mix_f (part_f x) (a (floor_f x)) (a (suc_ℤ (floor_f x)))

-- the surface over the values a i j, column i and row j
unfoldable pub surface : (ℤ → ℤ → Fraction) → Fraction → Fraction → Fraction
unfolding lin
surface a x y = lin (λ (j : ℤ). lin (λ (i : ℤ). a i j) x) y
