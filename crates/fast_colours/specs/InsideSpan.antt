-- A span whose places or cells lie inside a picture. By `Bilinear`: each point's four weights and their sum. Assumes
-- nothing.
use Rattle.std.specs.Prelude.{ℕ, ◌+◌, ◌<◌, ◌≡◌, List, [], length, get_or, Float}
use Rattle.exact.specs.Limits.{longest_span}
use Rattle.exact.specs.Weighted.{Unit32}
use Rattle.exact.specs.Vector.{at}
use Rattle.picture.specs.Store.{Numbers}
use Rattle.picture.specs.declared.colour.Rgba.{Rgba}
use Rattle.picture.specs.declared.picture.Picture.{Picture}
use Rattle.band.specs.Image.{Image, image_of}
use Rattle.taps.specs.declared.weights.BilinearWeights.{BilinearWeights}
use Rattle.sampler.specs.TwoByTwo.{Weighed, mixed, cell_colour}

-- a picture by its bytes and sizes
abbrev pub image_in : Picture → Image
image_in p = image_of p.bytes.now p.width p.height p.channels

-- the first n places lie inside: their columns and rows
pub record PixelsInside (width height n : ℕ) (columns rows : List ℕ) : Type 0 where
  pub column : (k : ℕ) → k < n → get_or columns k 0 < width
  pub row : (k : ℕ) → k < n → get_or rows k 0 < height

-- the first n cells lie inside: their columns and rows, and the next of each
pub record CellsInside (width height n : ℕ) (columns rows : List ℕ) : Type 0 where
  pub column : (k : ℕ) → k < n → get_or columns k 0 + 1 < width
  pub row : (k : ℕ) → k < n → get_or rows k 0 + 1 < height

-- the first n fractions are f32 numbers from 0 to 1
pub record Fractions (n : ℕ) (ts : List Float) : Type 0 where
  pub unit : (k : ℕ) → k < n → Unit32 (at ts k)

-- the colour of the k-th cell at its point's fractions
abbrev pub blend_at : List ℕ → ℕ → ℕ → List ℕ → List ℕ → List Float → List Float → ℕ → Rgba
blend_at bytes width channels columns rows xs ys k =
    cell_colour bytes width channels (get_or columns k 0) (get_or rows k 0) (at xs k) (at ys k)

-- ---- how it is worked out
-- m lists of 64 places
pub record Sized (m : ℕ) (w : List (List Float)) : Type 0 where
  pub lists : length w ≡ m
  pub places : (i : ℕ) → i < m → length (get_or w i []) ≡ longest_span

-- the k-th of the list numbered i
abbrev pub weight : List (List Float) → ℕ → ℕ → Float
weight w i k = at (get_or w i []) k

-- the k-th of each of five lists
abbrev pub weights_of : List (List Float) → ℕ → BilinearWeights
weights_of w k =
    record { w00 = weight w 0 k; w10 = weight w 1 k; w01 = weight w 2 k; w11 = weight w 3 k; sum = weight w 4 k }

-- the weights of the first n fractions: a list for each of a cell's four taps, row by row, and one of their sums
pub record Weights (n : ℕ) (xs ys : List Float) (w : List (List Float)) : Type 0 where
  pub weighed : (k : ℕ) → k < n
      → Weighed (at xs k) (at ys k) (weight w 0 k) (weight w 1 k) (weight w 2 k) (weight w 3 k) (weight w 4 k)

-- its colour by them
abbrev pub mixed_at : List ℕ → ℕ → ℕ → List ℕ → List ℕ → List (List Float) → ℕ → Rgba
mixed_at bytes width channels columns rows w k =
    mixed bytes width channels (get_or columns k 0) (get_or rows k 0) (weight w 0 k) (weight w 1 k) (weight w 2 k)
    (weight w 3 k) (weight w 4 k)

-- the first n colours are numbers
pub record Mixable (bytes : List ℕ) (width channels n : ℕ) (columns rows : List ℕ) (w : List (List Float)) : Type 0
  where
    pub numbers : (k : ℕ) → k < n → Numbers (mixed_at bytes width channels columns rows w k)
