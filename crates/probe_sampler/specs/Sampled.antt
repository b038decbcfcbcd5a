-- The sampler handed out: 0 with the colour's bits in the bytes lent, or 1 outside the domain, where nothing is
-- written. Assumes nothing.
use Rattle.std.specs.Prelude.{ℕ, ◌*◌, Bool, not, cond, ◌||◌, List, ltb, Float}
use Rattle.std.specs.Float.{binary64}
use Rattle.std.specs.Float.Ieee.{of_bits}
use Rattle.number.specs.Magnitude.{within}
unfoldable pub use Rattle.sample_limit.specs.Samples.{large}
use Rattle.policies.specs.Named.{random_code}
use Rattle.taps.specs.Cell.{index_limit}
use Rattle.taps.specs.Interpolation.{background_code}
use Rattle.sampler.specs.Interpolate.{interpolate}
use Rattle.picture.specs.Pixel.{pixel_at}
use Rattle.picture.specs.Size.{bad_size, bad_stock}
use Rattle.picture.specs.Store.{store_pixel}
use Rattle.picture.specs.declared.colour.Rgba.{Rgba}
use Rattle.picture.specs.declared.shape.Shape.{Shape}

-- ---- what is outside the domain
-- how many samples a picture has
abbrev pub sample_count : Shape → ℕ
sample_count s = s.width * s.height * s.channels

unfoldable pub wrong_picture : List ℕ → Shape → Bool
wrong_picture bytes s =
    bad_size s.width s.height s.channels || bad_stock bytes s.width s.height s.channels

unfoldable pub wrong_codes : ℕ → ℕ → Bool
wrong_codes policy code = ltb random_code policy || ltb background_code code

-- a coordinate, by its bits, that is not a number or above 2^30 + 1 in magnitude
unfoldable pub far_coordinate : ℕ → Bool
far_coordinate x = not (within index_limit (of_bits binary64 x))

unfoldable pub unfit_sample : List ℕ → Shape → ℕ → ℕ → List ℕ → ℕ → ℕ → Bool
unfit_sample bytes s policy code background x y =
    wrong_picture bytes s
    || (wrong_codes policy code
    || (large bytes (sample_count s) || (large background 4 || (far_coordinate x || far_coordinate y))))

-- ---- the answers
-- the colour at a point, by the bits of its coordinates, as the pixel numbered k
abbrev pub store_colour : (Float → Float → Rgba) → ℕ → ℕ → List ℕ → ℕ → List ℕ
store_colour colour x y out k = store_pixel out 4 k (colour (of_bits binary64 x) (of_bits binary64 y))

-- the colours of a picture under a policy by an interpolation; the background in bytes is a picture of one pixel
abbrev pub colours : List ℕ → Shape → ℕ → ℕ → List ℕ → Float → Float → Rgba
colours bytes s policy code background =
    interpolate bytes s.width s.height s.channels policy code (pixel_at background 1 4 0 0)

abbrev pub shape_of : ℕ → ℕ → ℕ → Shape
shape_of width height channels = record { width = width; height = height; channels = channels }

unfoldable pub probe_interpolate : List ℕ → ℕ → ℕ → ℕ → ℕ → ℕ → List ℕ → ℕ → ℕ → List ℕ → ℕ × List ℕ
probe_interpolate bytes width height channels policy code background x y out =
    cond (unfit_sample bytes (shape_of width height channels) policy code background x y) (1, out)
    (0, store_colour (colours bytes (shape_of width height channels) policy code background) x y out 0)
