-- A picture in bytes: f32 samples, four bytes each, row by row, 1 to 4 to a pixel; and its pixels as colours.
-- Specification 8. Assumes nothing.
use Rattle.std.specs.Prelude.{ℕ, ◌+◌, ◌*◌, ◌%◌, ◌≤◌, ◌<◌, ◌≡◌, cond, List, ◌⊎◌, eqb, length}
use Rattle.endian.specs.Bytes.{u32_at, sample_at, sample_pattern}
use Rattle.picture.specs.Colour.{one, grey}
use Rattle.picture.specs.declared.colour.Rgba.{Rgba}
use Rattle.picture.specs.declared.shape.Shape.{Shape}
pub use Rattle.policies.specs.Named.{Sizes}

-- each sample's pattern, its sign aside, is at most that of 65,536: it is a number's, and no NaN's
pub record Limited (bytes : List ℕ) : Type 0 where
  pub sample : (k : ℕ) → (k + 1) * 4 ≤ length bytes → u32_at bytes (4 * k) % 0x8000_0000 ≤ sample_pattern

-- the bytes are those of a picture of these sizes, and of numbers
pub record Picture (bytes : List ℕ) (width height channels : ℕ) : Type 0 where
  pub sizes : Sizes width height
  pub channels_least : 0 < channels
  pub channels_most : channels ≤ 4
  pub whole : length bytes ≡ width * height * channels * 4
  pub limited : Limited bytes

-- the same by the picture's shape
abbrev pub Shaped : List ℕ → Shape → Type 0
Shaped bytes s = Picture bytes s.width s.height s.channels

-- the channels that a picture and an output can have
abbrev pub Channels : ℕ → Type 0
Channels n = (n ≡ 1) ⊎ ((n ≡ 3) ⊎ (n ≡ 4))

-- column x, row y lies in the bytes of a picture, whatever its height
pub record Inside (bytes : List ℕ) (width channels x y : ℕ) : Type 0 where
  pub height : ℕ
  pub picture : Picture bytes width height channels
  pub column : x < width
  pub row : y < height

-- the Rust's `to_rgba`, of the pixel whose first sample is numbered k: grey three times, and alpha 1 where there is
-- none
unfoldable pub widened : List ℕ → ℕ → ℕ → Rgba
widened bytes channels k =
    cond (eqb channels 4)
    (record {
      r = sample_at bytes k;
      g = sample_at bytes (k + 1);
      b = sample_at bytes (k + 2);
      a = sample_at bytes (k + 3);
    })
    (cond (eqb channels 3)
    (record { r = sample_at bytes k; g = sample_at bytes (k + 1); b = sample_at bytes (k + 2); a = one })
    (grey (sample_at bytes k) one))

-- the colour at column x, row y
unfoldable pub pixel_at : List ℕ → ℕ → ℕ → ℕ → ℕ → Rgba
pixel_at bytes width channels x y = widened bytes channels ((y * width + x) * channels)
