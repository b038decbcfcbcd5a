-- What the two perspective methods are fitted to: a homography from the output to the picture, row-major 3 by 3.
-- Specification 5.2. Assumes nothing.
use Rattle.std.specs.Prelude.{ℕ, ◌+◌, [], ◌∷◌, pos, Option, option_map, Float}
use Rattle.std.specs.Float.{binary64}
use Rattle.std.specs.Float.Ieee.{of_int}
use Rattle.exact.specs.Double.{◌⊕◌, ◌⊗◌, ◌⊘◌, two, one}
use Rattle.exact.specs.Loop.{up_to}
use Rattle.mappings.specs.declared.rows.Side.{Side}
use Rattle.mappings.specs.declared.rows.Side.TheVariants.{OfX, OfY}
use Rattle.mappings.specs.declared.rows.Twin.TheVariants.{Perspective}
use Rattle.fit.specs.Fit.{fit_twin, sides_of}
use Rattle.linear.specs.Invert.{invert3}
use Rattle.mappings.specs.Mapping.{Fitted, perspective_kind, mapping, solved_or8}
use Rattle.exact.specs.Vector.{Vector, at}
use Rattle.linear.specs.Matrix.{nought}
use Rattle.fit.specs.Orient.{orient}

-- ---- the arguments are a forward map; oriented at the image of the picture's centre

abbrev pub forward : Vector → Vector
forward values = at values 0 ∷ at values 1 ∷ at values 2 ∷ at values 3 ∷ at values 4 ∷ at values 5
    ∷ at values 6 ∷ at values 7 ∷ one ∷ []

-- where row k of the numerators takes (u, v)
abbrev pub projected : Vector → ℕ → Float → Float → Float
projected m k u v = (at m k ⊗ u ⊕ at m (k + 1) ⊗ v ⊕ at m (k + 2)) ⊘ (at m 6 ⊗ u ⊕ at m 7 ⊗ v ⊕ one)

abbrev pub centred : Vector → Option Vector → Float → Float → Fitted
centred fwd inverse u v = solved_or8
    (option_map (λ m. mapping perspective_kind 0 (orient m (projected fwd 0 u v) (projected fwd 3 u v))) inverse)

unfoldable pub fit_perspective_projection : Vector → Float → Float → Fitted
fit_perspective_projection values w h = centred (forward values) (invert3 (forward values)) (w ⊘ two) (h ⊘ two)

-- ---- pairs; oriented at the mean of x and the mean of y

-- .fold(0.0, |a, p| a + p.x / n)
unfoldable pub add_part : Vector → ℕ → Side → ℕ → Float → Float
add_part values pairs side j sum = sum ⊕ sides_of values 0 side j ⊘ of_int binary64 (pos pairs)

abbrev pub mean_of_side : Vector → ℕ → Side → Float
mean_of_side values pairs side = up_to (add_part values pairs side) 0 pairs nought

abbrev pub homography : Vector → Vector
homography c = at c 0 ∷ at c 1 ∷ at c 2 ∷ at c 3 ∷ at c 4 ∷ at c 5 ∷ at c 6 ∷ at c 7 ∷ one ∷ []

abbrev pub meant : Option Vector → Float → Float → Fitted
meant s x y = solved_or8 (option_map (λ c. mapping perspective_kind 0 (orient (homography c) x y)) s)

unfoldable pub fit_perspective : Vector → ℕ → Fitted
fit_perspective values pairs = meant (fit_twin values pairs Perspective 8) (mean_of_side values pairs OfX)
    (mean_of_side values pairs OfY)
