-- A colour stored as a pixel of a band's bytes: the Rust's `to_channels`, of one pixel. Specification 10. Assumes
-- nothing.
use Rattle.std.specs.Prelude.{ℕ, ◌+◌, ◌*◌, not, cond, List, T, eqb, Float}
use Rattle.std.specs.Float.Ieee.{is_nan}
use Rattle.endian.specs.Bytes.{store_f32}
use Rattle.picture.specs.Colour.{luma}
use Rattle.picture.specs.declared.colour.Rgba.{Rgba}

-- the sample numbered k of a band's bytes
abbrev pub store_sample : List ℕ → ℕ → Float → List ℕ
store_sample bytes k v = store_f32 bytes (4 * k) v

-- a colour without its alpha, from the sample numbered k on
abbrev pub store_rgb : List ℕ → ℕ → Rgba → List ℕ
store_rgb bytes k c = store_sample (store_sample (store_sample bytes k c.r) (k + 1) c.g) (k + 2) c.b

-- from the sample numbered k on: four channels as they are, three without alpha, one as luma
unfoldable pub narrowed : List ℕ → ℕ → ℕ → Rgba → List ℕ
narrowed bytes channels k c =
    cond (eqb channels 4)
    (store_sample (store_rgb bytes k c) (k + 3) c.a)
    (cond (eqb channels 3) (store_rgb bytes k c) (store_sample bytes k (luma c)))

-- the bytes with the colour as their pixel numbered `pixel`, row by row
unfoldable pub store_pixel : List ℕ → ℕ → ℕ → Rgba → List ℕ
store_pixel bytes channels pixel c = narrowed bytes channels (pixel * channels) c

-- none of what can be put of a colour is a NaN: its samples and its luma
pub record Numbers (c : Rgba) : Type 0 where
  pub red : T (not (is_nan c.r))
  pub green : T (not (is_nan c.g))
  pub blue : T (not (is_nan c.b))
  pub alpha : T (not (is_nan c.a))
  pub grey : T (not (is_nan (luma c)))
