-- A span by `Catrom` or `Spline` whose squares of four by four taps lie inside a picture, and the colour that weights
-- along a row and along a column make of a square. Assumes nothing.
use Rattle.std.specs.Prelude.{ℕ, ◌+◌, ◌-◌, ◌<◌, List, pos, get_or, Float}
use Rattle.fast_cells.specs.Cells.{Cells}
use Rattle.picture.specs.declared.colour.Rgba.{Rgba}
use Rattle.taps.specs.Taps.{taps}
use Rattle.taps.specs.Weighted.{weighted}
use Rattle.taps.specs.Weights.{products}
use Rattle.sampler.specs.FourByFour.{own}

-- the first n squares lie inside: one before their columns and rows, and two after
pub record FourByFours (width height n : ℕ) (columns rows : List ℕ) : Type 0 where
  pub left : (k : ℕ) → k < n → 0 < get_or columns k 0
  pub right : (k : ℕ) → k < n → get_or columns k 0 + 2 < width
  pub above : (k : ℕ) → k < n → 0 < get_or rows k 0
  pub under : (k : ℕ) → k < n → get_or rows k 0 + 2 < height

-- the first n of a list are above 0
pub record Past (n : ℕ) (cs : List ℕ) : Type 0 where
  pub past : (k : ℕ) → k < n → 0 < get_or cs k 0

-- the first n points have their cells inside, with room for their squares
pub record Standing (width height n : ℕ) (us vs : List Float) (columns rows : List ℕ) (xs ys : List Float) : Type 0
  where
    pub across : Cells (width - 2) n us columns xs
    pub down : Cells (height - 2) n vs rows ys
    pub left : Past n columns
    pub above : Past n rows

-- the colour of the square around the cell at column i and row j
unfoldable pub four_by_four : List ℕ → ℕ → ℕ → ℕ → ℕ → List Float → List Float → Rgba
four_by_four bytes width channels i j wx wy =
    weighted (taps (own bytes width channels) (record { column = pos (i - 1); row = pos (j - 1) }) 4) (products wx wy)
    16
