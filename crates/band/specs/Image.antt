-- A picture and its sizes. Assumes nothing.
use Rattle.std.specs.Prelude.{ℕ, List}
use Rattle.picture.specs.declared.shape.Shape.{Shape}

-- a picture: f32 samples in bytes, row by row
pub record Image : Type 0 where
  pub bytes : List ℕ
  pub width : ℕ
  pub height : ℕ
  pub channels : ℕ

abbrev pub image_of : List ℕ → ℕ → ℕ → ℕ → Image
image_of bytes width height channels = record { bytes = bytes; width = width; height = height; channels = channels }

abbrev pub shaped_image : List ℕ → Shape → Image
shaped_image bytes s = image_of bytes s.width s.height s.channels
