-- Four neighbouring samples at a time: those of a pixel of three channels, and the next pixel's first. Assumes nothing.
use Rattle.std.specs.Prelude.{ℕ, ◌+◌, ◌<◌, ◌≡◌, List, get_or, Float}
use Rattle.exact.specs.Single.{◌⊕◌, ◌⊗◌}
use Rattle.picture.specs.Colour.{zero, one, grey}
use Rattle.picture.specs.Pixel.{widened}
use Rattle.picture.specs.declared.colour.Rgba.{Rgba}
use Rattle.picture.specs.Store.{store_sample, Numbers}
use Rattle.sampler.specs.TwoByTwo.{mixed}
use Rattle.fast_colours.specs.InsideSpan.{weight}

-- `added` of opaque taps, sample by sample
abbrev pub added_opaque : Rgba → Float → Rgba → Rgba
added_opaque p w s = record {
  r = s.r ⊕ w ⊗ p.r ⊗ one;
  g = s.g ⊕ w ⊗ p.g ⊗ one;
  b = s.b ⊕ w ⊗ p.b ⊗ one;
  a = s.a
      ⊕ w ⊗ p.a ⊗ one;
}

-- from the sample numbered k on, and from that of the row after it, n samples later
abbrev pub four_sums : List ℕ → ℕ → ℕ → Float → Float → Float → Float → Rgba
four_sums bytes k n a b c d =
    added_opaque (widened bytes 4 (k + n + 3)) d
    (added_opaque (widened bytes 4 (k + n)) c
    (added_opaque (widened bytes 4 (k + 3)) b (added_opaque (widened bytes 4 k) a (grey zero zero))))

-- the colour of the cell at column i and row j by given weights and their sum, and in alpha's pixel the next cell's red
-- by the same
abbrev pub broad : List ℕ → ℕ → ℕ → ℕ → Float → Float → Float → Float → Float → Rgba
broad bytes width i j a b c d s =
    record {
      r = (mixed bytes width 3 i j a b c d s).r;
      g = (mixed bytes width 3 i j a b c d s).g;
      b = (mixed bytes width 3 i j a b c d s).b;
      a = (mixed bytes width 3 (i + 1) j a b c d s).r;
    }

-- the same bytes once the sample numbered k is put, whatever it is
pub record Covered (now clean : List ℕ) (k : ℕ) : Type 0 where
  pub same : (v : Float) → store_sample now k v ≡ store_sample clean k v

-- each of n cells lies inside with a pixel to its right, and its four quotients are numbers
pub record Beside (bytes : List ℕ) (width height n : ℕ) (columns rows : List ℕ) (w : List (List Float)) : Type 0
  where
    pub column : (k : ℕ) → k < n → get_or columns k 0 + 2 < width
    pub row : (k : ℕ) → k < n → get_or rows k 0 + 1 < height
    pub numbers : (k : ℕ) → k < n
        → Numbers (broad bytes width (get_or columns k 0) (get_or rows k 0) (weight w 0 k) (weight w 1 k) (weight w 2 k)
        (weight w 3 k) (weight w 4 k))
