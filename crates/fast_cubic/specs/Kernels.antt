-- The weights of a span by `Catrom` or `Spline`: four for each fraction, in four lists. Assumes nothing.
use Rattle.std.specs.Prelude.{ℕ, ◌<◌, ◌≡◌, List, [], ◌∷◌, Float}
use Rattle.cubic.specs.declared.cubic.CubicRow.{CubicRow}
use Rattle.cubic.specs.Cubic.{cubic_weights}
use Rattle.exact.specs.Vector.{at}
use Rattle.sampler.specs.Sixteen.{kernel_of}
use Rattle.fast_colours.specs.InsideSpan.{weight}

-- the k-th of four lists
abbrev pub of_four : List (List Float) → ℕ → List Float
of_four w k = weight w 0 k ∷ weight w 1 k ∷ weight w 2 k ∷ weight w 3 k ∷ []

-- the weights of the first n fractions, by a row of the printed table
pub record Weighed4 (row : CubicRow) (n : ℕ) (ts : List Float) (w : List (List Float)) : Type 0 where
  pub weights : (k : ℕ) → k < n → of_four w k ≡ cubic_weights (at ts k) row

-- and by the interpolation's code
pub record Kernels (code n : ℕ) (ts : List Float) (w : List (List Float)) : Type 0 where
  pub weights : (k : ℕ) → k < n → of_four w k ≡ kernel_of code (at ts k)
