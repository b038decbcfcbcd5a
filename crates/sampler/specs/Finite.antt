-- What the laws of finite colours speak of: a picture whose samples are numbers of at most 65,536 in magnitude, and
-- colours whose components are f32 values. Assumes nothing.
use Rattle.std.specs.Prelude.{ℕ, ◌*◌, ◌<◌, List, T}
use Rattle.std.specs.Float.{binary32}
use Rattle.std.specs.Float.Ieee.{fits}
use Rattle.exact.specs.Fraction.{Fraction, frac}
use Rattle.endian.specs.Bytes.{sample_at}
use Rattle.picture.specs.Pixel.{Picture}
use Rattle.taps.specs.Weighted.{Bounded}
use Rattle.picture.specs.declared.colour.Rgba.{Rgba}

-- the largest sample of a picture, in magnitude
abbrev pub largest_sample : Fraction
largest_sample = frac 65536 1

pub record BoundedPicture (bytes : List ℕ) (width height channels : ℕ) : Type 0 where
  pub picture : Picture bytes width height channels
  pub samples : (k : ℕ) → k < width * height * channels → Bounded largest_sample (sample_at bytes k)

-- each component is an f32 value
pub record FitsBy (p : Rgba) : Type 0 where
  pub red : T (fits binary32 p.r)
  pub green : T (fits binary32 p.g)
  pub blue : T (fits binary32 p.b)
  pub alpha : T (fits binary32 p.a)
