-- The band: rows of output pixels in bytes, whatever it held before, and how many of them are matte. An output pixel is
-- asked at its middle; where its source point is none or unusable it is matte, and else the picture's colour there,
-- half a pixel back into index space. Specification 10. Assumes nothing.
use Rattle.std.specs.Prelude.{ℕ, ◌+◌, ◌*◌, ◌≡◌, Bool, true, false, cond, List, ◌++◌, Float, ℤ, replicate, take, drop}
use Rattle.exact.specs.Double.{◌⊖◌}
use Rattle.exact.specs.Sums.{asked}
use Rattle.exact.specs.Warp.{half}
use Rattle.exact.specs.Vector.{Vector, at}
use Rattle.inverse.specs.Inverse.{inverse}
use Rattle.inverse.specs.declared.frame.Frame.{Frame}
use Rattle.mappings.specs.declared.mapping.Kind.{Kind}
use Rattle.mappings.specs.declared.mapping.Mapping.{Mapping}
use Rattle.point.specs.Point.{point, usable}
use Rattle.point.specs.declared.point.Point.{Point}
use Rattle.sampler.specs.Interpolate.{interpolate}
use Rattle.picture.specs.Store.{store_pixel}
use Rattle.policies.specs.Named as Policies
use Rattle.taps.specs.Interpolation as Interpolations
use Rattle.picture.specs.declared.picture.Picture.{Picture}
use Rattle.picture.specs.declared.colour.Rgba.{Rgba}
use Rattle.picture.specs.declared.shape.Shape.{Shape}
use Rattle.band.specs.declared.look.Look.{Look}
use Rattle.band.specs.Image.{Image, image_of, shaped_image}
use Rattle.band.specs.Joined.{joined, totalled}

-- ---- what a pixel is worked from
-- the mapping, and where the window lies
pub record Mapped : Type 0 where
  pub kind : Kind
  pub order : ℕ
  pub count : ℕ
  pub coef : Vector
  pub x : ℤ
  pub y : ℤ

-- the picture with its surroundings, and the colour of pixels that have no source
pub record Source : Type 0 where
  pub image : Image
  pub policy : ℕ
  pub interpolation : ℕ
  pub background : Rgba
  pub matte : Rgba

-- by its parts
abbrev pub source_by : Image → ℕ → ℕ → Rgba → Rgba → Source
source_by image policy interpolation background matte = record {
  image = image;
  policy = policy;
  interpolation = interpolation;
  background = background;
  matte = matte;
}

-- a mapping in a window at x, y
abbrev pub mapped : Mapping → ℤ → ℤ → Mapped
mapped m x y = record { kind = m.kind; order = m.order; count = m.count; coef = m.coef; x = x; y = y }

abbrev pub looked : Image → Look → Source
looked image l =
    source_by image (Policies.code_of l.policy) (Interpolations.code_of l.interpolation) l.background l.matte

-- both by the records that the code hands on, with the lists that it lends
abbrev pub framed : Frame → Mapped
framed f = mapped f.mapping.now f.x f.y

abbrev pub sourced : List ℕ → Shape → Look → Source
sourced bytes s l = looked (shaped_image bytes s) l

abbrev pub pictured : Picture → Look → Source
pictured p l = looked (image_of p.bytes.now p.width p.height p.channels) l

-- ---- one pixel, at column i and row j of the window
abbrev pub point_at : Mapped → ℕ → ℕ → Point
point_at f i j = inverse f.kind f.order f.count f.coef (asked i f.x) (asked j f.y)

unfoldable pub shown : Source → Point → Rgba
shown s p =
    cond p.usable
    (interpolate s.image.bytes s.image.width s.image.height s.image.channels s.policy
    s.interpolation s.background (p.u ⊖ half) (p.v ⊖ half))
    s.matte

abbrev pub colour_at : Source → Mapped → ℕ → ℕ → Rgba
colour_at s f i j = shown s (point_at f i j)

abbrev pub matte_pixels_at : Mapped → ℕ → ℕ → ℕ
matte_pixels_at f i j = cond (point_at f i j).usable 0 1

-- both by the coordinates of its source point
abbrev pub kept_colour : Source → Float → Float → Rgba
kept_colour s u v = shown s (point u v)

abbrev pub kept_matte_pixels : Float → Float → ℕ
kept_matte_pixels u v = cond (usable u v) 0 1

-- its bytes, four a sample
abbrev pub pixel_bytes : ℕ → Rgba → List ℕ
pixel_bytes out_channels c = store_pixel (replicate (out_channels * 4) 0) out_channels 0 c

-- ---- a span of n pixels, put from the pixel numbered `pixel` on
-- what bytes become by it, where the k-th pixel has the colour `colour k`
abbrev pub put_pixels : ℕ → (ℕ → Rgba) → ℕ → ℕ → List ℕ → List ℕ
put_pixels out_channels colour n pixel bytes =
    take (pixel * out_channels * 4) bytes ++ joined (λ (k : ℕ). pixel_bytes out_channels (colour k)) n
    ++ drop ((pixel + n) * out_channels * 4) bytes

-- and where the source points have the coordinates us and vs
abbrev pub span_bytes : Source → ℕ → List Float → List Float → ℕ → ℕ → List ℕ → List ℕ
span_bytes s out_channels us vs n pixel bytes =
    put_pixels out_channels (λ (k : ℕ). kept_colour s (at us k) (at vs k)) n pixel bytes

-- where all of it lies inside: whatever the colours outside, and none is matte
abbrev pub Inner : Image → ℕ → ℕ → List Float → List Float → ℕ → ℕ → List ℕ → List ℕ → Type 0
Inner image interpolation out_channels us vs n pixel before after =
    (policy : ℕ) (background matte : Rgba)
    → (0 ≡ totalled (λ (k : ℕ). kept_matte_pixels (at us k) (at vs k)) n)
    × (after ≡ span_bytes (source_by image policy interpolation background matte) out_channels us vs n pixel before)

-- what the answer of a way that puts such spans alone says: true, it was one; false, nothing was put
abbrev pub InnerOrUntouched : Bool → Image → ℕ → ℕ → List Float → List Float → ℕ → ℕ → List ℕ → List ℕ → Type 0
InnerOrUntouched answer image interpolation out_channels us vs n pixel before after =
    (answer ≡ true → Inner image interpolation out_channels us vs n pixel before after)
    × (answer ≡ false → after ≡ before)

-- ---- row j, and then rows from `first` on, of a window of this width
unfoldable pub row_bytes : Source → Mapped → ℕ → ℕ → ℕ → List ℕ
row_bytes s f out_channels out-width j = joined (λ (i : ℕ). pixel_bytes out_channels (colour_at s f i j)) out-width

unfoldable pub rows_bytes : Source → Mapped → ℕ → ℕ → ℕ → ℕ → List ℕ
rows_bytes s f out_channels out-width first rows = joined
    (λ (r : ℕ). row_bytes s f out_channels out-width (first + r)) rows

unfoldable pub row_matte_pixels : Mapped → ℕ → ℕ → ℕ
row_matte_pixels f out-width j = totalled (λ (i : ℕ). matte_pixels_at f i j) out-width

unfoldable pub rows_matte_pixels : Mapped → ℕ → ℕ → ℕ → ℕ
rows_matte_pixels f out-width first rows = totalled (λ (r : ℕ). row_matte_pixels f out-width (first + r)) rows
