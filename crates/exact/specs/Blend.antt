-- The blend of 2^n corners by n fractions, each from 0 to 1: a weight for each corner, and the sum of the corners'
-- values times their weights. The first fraction's corners come fastest: for two it is (0,0), (1,0), (0,1), (1,1), as
-- `Bilinear` takes its taps; for three it is a cube with the first axis fastest. Assumes nothing.
use Rattle.std.specs.Prelude.{List, [], ◌∷◌, ℤ}
use Rattle.std.proofs.Math.IntN.{suc_ℤ}
use Rattle.exact.specs.Fraction.{Fraction, frac, ◌+F◌, ◌-F◌, ◌*F◌, distance}
use Rattle.exact.specs.Surface.{mix_f}

-- each weight parted between the two ends of one more axis
unfoldable pub parted_f : Fraction → List Fraction → List Fraction
unfolding ◌-F◌ ◌*F◌
parted_f t [] = []
parted_f t (w ∷ ws) = ((frac 1 1 -F t) *F w) ∷ ((t *F w) ∷ parted_f t ws)

unfoldable pub weights_f : List Fraction → List Fraction
unfolding parted_f
weights_f [] = frac 1 1 ∷ []
weights_f (t ∷ ts) = parted_f t (weights_f ts)

-- the sum of products, pair by pair
unfoldable pub dot_f : List Fraction → List Fraction → Fraction
unfolding ◌+F◌ ◌*F◌
dot_f [] vs = frac 0 1
dot_f (w ∷ ws) [] = frac 0 1
dot_f (w ∷ ws) (v ∷ vs) = w *F v +F dot_f ws vs

unfoldable pub blend_f : List Fraction → List Fraction → Fraction
unfolding weights_f dot_f
blend_f ts vs = dot_f (weights_f ts) vs

-- the four values around a point of the cell of column k and row l
abbrev pub four_around : (ℤ → ℤ → Fraction) → ℤ → ℤ → List Fraction
four_around a k l = a k l ∷ a (suc_ℤ k) l ∷ a k (suc_ℤ l) ∷ a (suc_ℤ k) (suc_ℤ l) ∷ []

-- ---- what the laws of the blend speak of
unfoldable pub total : List Fraction → Fraction
unfolding ◌+F◌
total [] = frac 0 1
total (w ∷ ws) = w +F total ws

-- the corners' values mixed along the first axis: half as many are left (a last one that has no partner counts against
-- 0)
unfoldable pub folded_f : Fraction → List Fraction → List Fraction
unfolding mix_f ◌-F◌ ◌*F◌
folded_f t [] = []
folded_f t (a ∷ []) = ((frac 1 1 -F t) *F a) ∷ []
folded_f t (a ∷ (b ∷ vs)) = mix_f t a b ∷ folded_f t vs

-- the sum of the distances of two lists, pair by pair
unfoldable pub apart_f : List Fraction → List Fraction → Fraction
unfolding distance ◌+F◌
apart_f [] us = frac 0 1
apart_f (t ∷ ts) [] = frac 0 1
apart_f (t ∷ ts) (u ∷ us) = distance t u +F apart_f ts us

-- R of each pair, and as many on the left as on the right
abbrev pub Pairwise : (Fraction → Fraction → Type 0) → List Fraction → List Fraction → Type 0
Pairwise R [] [] = Unit {0}
Pairwise R [] (y ∷ ys) = ⊥
Pairwise R (x ∷ xs) [] = ⊥
Pairwise R (x ∷ xs) (y ∷ ys) = R x y × Pairwise R xs ys
