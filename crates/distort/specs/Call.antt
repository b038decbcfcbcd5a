-- What a call answers and leaves: of an accepted one the size, offset and channels of the output and the matte pixels
-- of the band, whose bytes are the rows asked for; of a refused one its number, and nothing is changed. Specification
-- 1.1, 10. Assumes nothing.
use Rattle.std.specs.Prelude.{ℕ, cond, List, eqb}
use Rattle.endian.specs.Bytes.{store_u64, store_i64}
use Rattle.window.specs.Window.{width_of, height_of, x_of, y_of}
use Rattle.distort.specs.Answer.{Answer}
use Rattle.distort.specs.Answer.{Accepted, Refused}
use Rattle.band.specs.Band.{Mapped, Source, mapped, rows_bytes, rows_matte_pixels}
use Rattle.distort.specs.Job.{Image, Given, Call, colour_of}
use Rattle.distort.specs.Refusal.{fit_of, window_of, out_channels, refusal}

-- ---- the output of a job
abbrev pub out_width : Image → Given → ℕ
out_width p g = width_of (window_of p g)

abbrev pub out_height : Image → Given → ℕ
out_height p g = height_of (window_of p g)

abbrev pub mapped_of : Image → Given → Mapped
mapped_of p g = mapped (fit_of p g).mapping (x_of (window_of p g)) (y_of (window_of p g))

abbrev pub source_of : Image → Given → Source
source_of p g = record {
  image = p;
  policy = g.policy;
  interpolation = g.interpolation;
  background = colour_of g.background;
  matte = colour_of g.matte;
}

-- the bytes of its rows from `first` on
unfoldable pub rows_of : Image → Given → ℕ → ℕ → List ℕ
rows_of p g first rows = rows_bytes (source_of p g) (mapped_of p g) (out_channels p g) (out_width p g) first rows

unfoldable pub matte_pixels_of : Image → Given → ℕ → ℕ → ℕ
matte_pixels_of p g first rows = rows_matte_pixels (mapped_of p g) (out_width p g) first rows

-- ---- the call
unfoldable pub answer : Call → Answer
answer c =
    cond (eqb (refusal c) 0)
    (Accepted (out_width c.image c.given) (out_height c.image c.given) (x_of (window_of c.image c.given))
    (y_of (window_of c.image c.given)) (out_channels c.image c.given)
    (matte_pixels_of c.image c.given c.first c.rows))
    (Refused (refusal c))

-- the band's bytes afterwards
unfoldable pub left : Call → List ℕ
left c = cond (eqb (refusal c) 0) (rows_of c.image c.given c.first c.rows) c.band

-- ---- the number and the values of each answer (specification 1.1); 0 is no refusal
abbrev pub number_of : Answer → ℕ
number_of (Accepted width height x y channels matte-pixels) = 0
number_of (Refused number) = number

-- in the bytes lent for them
abbrev pub store_answer : Answer → List ℕ → List ℕ
store_answer (Accepted width height x y channels matte-pixels) out =
    store_u64 (store_u64 (store_i64 (store_i64 (store_u64 (store_u64 out 0 width) 8 height) 16 x) 24 y) 32 channels) 40
    matte-pixels
store_answer (Refused number) out = out
