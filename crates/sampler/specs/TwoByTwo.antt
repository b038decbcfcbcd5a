-- The four taps of a cell that lies inside a picture: the cell's own pixel, the next, and both in the row after. Their
-- weighted mean by `Bilinear`, and how it is worked out from weights and their sum, which are handed in. Assumes
-- nothing.
use Rattle.std.specs.Prelude.{ℕ, ◌+◌, ◌≡◌, cond, List, [], ◌∷◌, eqb, Float}
use Rattle.exact.specs.Single.{◌⊘◌}
use Rattle.exact.specs.Weighted.{w00, w10, w01, w11, weight_sum}
use Rattle.picture.specs.Pixel.{pixel_at}
use Rattle.picture.specs.declared.colour.Rgba.{Rgba}
use Rattle.taps.specs.Weights.{four_weights}
use Rattle.taps.specs.Weighted.{nothing, added, mean, weighted}
use Rattle.taps.specs.declared.weighted.Sums.{Sums}

-- the colour of the cell at column i and row j, for a point with the fractions tx and ty
unfoldable pub cell_colour : List ℕ → ℕ → ℕ → ℕ → ℕ → Float → Float → Rgba
cell_colour bytes width channels i j tx ty =
    weighted (pixel_at bytes width channels i j ∷ pixel_at bytes width channels (i + 1) j
    ∷ pixel_at bytes width channels i (j + 1) ∷ pixel_at bytes width channels (i + 1) (j + 1) ∷ []) (four_weights tx ty) 4

-- ---- how it is worked out
-- the weights of the four taps at the fractions tx and ty, and their sum
pub record Weighed (tx ty a b c d s : Float) : Type 0 where
  pub at_00 : a ≡ w00 tx ty
  pub at_10 : b ≡ w10 tx ty
  pub at_01 : c ≡ w01 tx ty
  pub at_11 : d ≡ w11 tx ty
  pub total : s ≡ weight_sum tx ty

-- with t as the sum of the weights
abbrev pub weighing : Float → Sums → Sums
weighing t s = record { r = s.r; g = s.g; b = s.b; a = s.a; weight = t }

-- the sums over the taps at the weights a, b, c and d
unfoldable pub two_by_two_sums : List ℕ → ℕ → ℕ → ℕ → ℕ → Float → Float → Float → Float → Float → Sums
two_by_two_sums bytes width channels i j a b c d t =
    weighing t
    (added (pixel_at bytes width channels (i + 1) (j + 1)) d
    (added (pixel_at bytes width channels i (j + 1)) c
    (added (pixel_at bytes width channels (i + 1) j) b
    (added (pixel_at bytes width channels i j) a nothing))))

-- the sums over the sum of weights
abbrev pub over_weight : Sums → Rgba
over_weight s = record { r = s.r ⊘ s.weight; g = s.g ⊘ s.weight; b = s.b ⊘ s.weight; a = s.a ⊘ s.weight }

-- the cell's colour by given weights and their sum, which is that of the alphas where each is 1
unfoldable pub mixed : List ℕ → ℕ → ℕ → ℕ → ℕ → Float → Float → Float → Float → Float → Rgba
mixed bytes width channels i j a b c d t =
    cond (eqb channels 4) (mean (two_by_two_sums bytes width channels i j a b c d t))
    (over_weight (two_by_two_sums bytes width channels i j a b c d t))
