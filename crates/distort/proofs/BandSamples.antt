-- The samples of a band, each at its place: of the pixel at column i and row j, the components of the colour shown
-- there. Row by row, and in a row pixel by pixel, from the samples of pieces of one length. Assumes nothing.
use mathlib.Core.Path.{◌≡◌, refl, sym, ap, ◌∙◌, subst}
use mathlib.Core.Logic.{◌⊎◌, inl, inr}
use Prim.Native.Nat.{ℕ, zero, suc, ◌+◌, ◌*◌, ◌/◌, ◌%◌, ◌<◌}
use native.Mathlib.Nat.{le_trans, add-zero, mul-le-mul_right, mod-lt, div-add-mod', div-lt_iff_lt-mul}
use native.Mathlib.Omega.{arith}
use lib.Ieee.{Float}
use Rattle.endian.specs.Bytes.{sample_at}
use Rattle.picture.specs.Colour.{one, luma}
use Rattle.sampler.specs.Finite.{FitsBy}
use Rattle.picture.specs.Pixel.{Picture, widened, pixel_at}
use Rattle.picture.specs.declared.colour.Rgba.{Rgba}
use Rattle.band.specs.Band.{Mapped, Source, colour_at, pixel_bytes, row_bytes, rows_bytes}
use Rattle.distort.specs.Call.{out_width, mapped_of, source_of, rows_of}
use Rattle.distort.specs.Job.{Image, Given}
use Rattle.distort.specs.Refusal.{out_channels}
use Rattle.band.proofs.LengthLaws.{row_length_law}
use Rattle.band.proofs.PixelLaws.{pixel_length}
use Rattle.distort.proofs.SampleLaws.{sample_joined, part, pixel_sample, pixel_grey, colour_of_fits, colour_fits}

within_row : (i k w c : ℕ) → i < w → k < c → i * c + k < w * c
within_row i k w c a b = le_trans (next i k c b) (mul-le-mul_right c a)
  where
    next : (i k c : ℕ) → k < c → i * c + k < suc i * c
    next i k c b = omega arith

-- ---- of a source and a frame
module _ (s : Source) (f : Mapped) (channels width first rows : ℕ) where
  band_sample : (i j k : ℕ) → i < width → j < rows → k < channels
      → sample_at (rows_bytes s f channels width first rows) ((j * width + i) * channels + k) ≡ sample_at
      (pixel_bytes channels (colour_at s f i (first + j))) k
  unfolding rows_bytes
  band_sample i j k a b c =
      ap (sample_at (rows_bytes s f channels width first rows)) (place i j k width channels)
      ∙ sample_joined (λ (r : ℕ). row_bytes s f channels width (first + r)) (width * channels) (width * channels * 4)
      refl (λ r. row_length_law s f channels width (first + r)) rows j (i * channels + k) b
      (within_row i k width channels a c)
      ∙ in_row (first + j) i k a c
    where
      place : (i j k w c : ℕ) → (j * w + i) * c + k ≡ j * (w * c) + (i * c + k)
      place i j k w c = omega arith

      in_row : (j i k : ℕ) → i < width → k < channels
          → sample_at (row_bytes s f channels width j) (i * channels + k) ≡ sample_at
          (pixel_bytes channels (colour_at s f i j)) k
      in_row j i k a c =
          unfold row_bytes in
          sample_joined (λ (x : ℕ). pixel_bytes channels (colour_at s f x j)) channels (channels * 4) refl
          (λ x. pixel_length channels (colour_at s f x j)) width i k a c

  module _ (F : (i j : ℕ) → FitsBy (colour_at s f i j)) where
    band_part : (channels ≡ 3) ⊎ (channels ≡ 4) → (i j k : ℕ) → i < width → j < rows → k < channels
        → sample_at (rows_bytes s f channels width first rows) ((j * width + i) * channels + k) ≡ part
        (colour_at s f i (first + j)) k
    band_part C i j k a b c = band_sample i j k a b c
        ∙ pixel_sample channels (colour_at s f i (first + j)) C (F i (first + j)) k c

    -- whatever holds of every component of every pixel's colour holds of every sample
    band_all : (channels ≡ 3) ⊎ (channels ≡ 4) → (P : Float → Type 0)
        → ((i j k : ℕ) → i < width → j < rows → k < channels → P (part (colour_at s f i (first + j)) k))
        → (n : ℕ) → n < rows * width * channels → P (sample_at (rows_bytes s f channels width first rows) n)
    band_all C P h n l =
        subst (λ (m : ℕ). P (sample_at (rows_bytes s f channels width first rows) m)) (back n)
        (subst P (sym (band_part C (n / channels % width) (n / channels / width) (n % channels)
        (mod-lt (n / channels) wide) row (mod-lt n deep)))
        (h (n / channels % width) (n / channels / width) (n % channels) (mod-lt (n / channels) wide) row
        (mod-lt n deep)))
      where
        nothing : (n a : ℕ) → n < a * 0 → ⊥
        nothing n a h = omega arith

        positive : (n a c : ℕ) → n < a * c → 0 < c
        positive n a c h = go c h
          where
            go : (c : ℕ) → n < a * c → 0 < c
            go zero h = absurd (nothing n a h)
            go (suc c) h = omega arith

        deep : 0 < channels
        deep = positive n (rows * width) channels l

        pixel : n / channels < rows * width
        pixel = (div-lt_iff_lt-mul deep).1 l

        wide : 0 < width
        wide = positive (n / channels) rows width pixel

        row : n / channels / width < rows
        row = (div-lt_iff_lt-mul wide).1 pixel

        back : (n : ℕ) → (n / channels / width * width + n / channels % width) * channels + n % channels ≡ n
        back n = ap (λ (z : ℕ). z * channels + n % channels) (div-add-mod' (n / channels) width)
            ∙ div-add-mod' n channels

-- ---- pixels read back
-- four channels are the colour itself, and three are it where its alpha is 1
module _ (s : Source) (f : Mapped) (width first rows : ℕ) (F : (i j : ℕ) → FitsBy (colour_at s f i j)) (i j : ℕ)
    (a : i < width) (b : j < rows) where
  back_four : pixel_at (rows_bytes s f 4 width first rows) width 4 i j ≡ colour_at s f i (first + j)
  unfolding pixel_at widened
  back_four =
      λ t.
      record {
        r = (ap (sample_at (rows_bytes s f 4 width first rows)) (sym (add-zero ((j * width + i) * 4)))
            ∙ band_part s f 4 width first rows F (inr refl) i j 0 a b (omega arith)) t;
        g = band_part s f 4 width first rows F (inr refl) i j 1 a b (omega arith) t;
        b = band_part s f 4 width first rows F (inr refl) i j 2 a b (omega arith) t;
        a = band_part s f 4 width first rows F (inr refl) i j 3 a b (omega arith) t;
      }

  back_three : (colour_at s f i (first + j)).a ≡ one
      → pixel_at (rows_bytes s f 3 width first rows) width 3 i j ≡ colour_at s f i (first + j)
  unfolding pixel_at widened
  back_three e =
      λ t.
      record {
        r = (ap (sample_at (rows_bytes s f 3 width first rows)) (sym (add-zero ((j * width + i) * 3)))
            ∙ band_part s f 3 width first rows F (inl refl) i j 0 a b (omega arith)) t;
        g = band_part s f 3 width first rows F (inl refl) i j 1 a b (omega arith) t;
        b = band_part s f 3 width first rows F (inl refl) i j 2 a b (omega arith) t;
        a = sym e t;
      }

  band_back : (channels : ℕ) → (channels ≡ 3) ⊎ (channels ≡ 4) → (channels ≡ 3 → (colour_at s f i (first + j)).a ≡ one)
      → pixel_at (rows_bytes s f channels width first rows) width channels i j ≡ colour_at s f i (first + j)
  band_back channels (inl e) o = ap (λ (n : ℕ). pixel_at (rows_bytes s f n width first rows) width n i j) e
      ∙ back_three (o e)
  band_back channels (inr e) o = ap (λ (n : ℕ). pixel_at (rows_bytes s f n width first rows) width n i j) e ∙ back_four

-- ---- of a job
module _ (p : Image) (g : Given) where
  -- the colour at column i and row j of its output
  abbrev pub colour_out : ℕ → ℕ → Rgba
  colour_out i j = colour_at (source_of p g) (mapped_of p g) i j

  module _ (P : Picture p.bytes p.width p.height p.channels) where
    pub out_fits : (i j : ℕ) → FitsBy (colour_out i j)
    out_fits i j = colour_fits (source_of p g) (mapped_of p g) P (colour_of_fits g.background)
        (colour_of_fits g.matte) i j

    module _ (first rows i j : ℕ) (a : i < out_width p g) (b : j < rows) where
      pub sample_at_law : (out_channels p g ≡ 3) ⊎ (out_channels p g ≡ 4) → (k : ℕ) → k < out_channels p g
          → sample_at (rows_of p g first rows) ((j * out_width p g + i) * out_channels p g + k) ≡ part
          (colour_out i (first + j)) k
      unfolding rows_of
      sample_at_law C k c = band_part (source_of p g) (mapped_of p g) (out_channels p g) (out_width p g) first rows out_fits C i
          j k a b c

      pub grey_at : out_channels p g ≡ 1
          → sample_at (rows_of p g first rows) (j * out_width p g + i) ≡ luma (colour_out i (first + j))
      unfolding rows_of
      grey_at e =
          ap (sample_at (rows_bytes (source_of p g) (mapped_of p g) (out_channels p g) (out_width p g) first rows))
          (alone (j * out_width p g + i) (out_channels p g) e)
          ∙ band_sample (source_of p g) (mapped_of p g) (out_channels p g) (out_width p g) first rows i j 0 a b
          (subst (λ (n : ℕ). 0 < n) (sym e) (omega arith))
          ∙ ap (λ (n : ℕ). sample_at (pixel_bytes n (colour_out i (first + j))) 0) e
          ∙ pixel_grey (colour_out i (first + j))
        where
          alone : (n c : ℕ) → c ≡ 1 → n ≡ n * c + 0
          alone n c e = sym (ap (λ (z : ℕ). n * z + 0) e ∙ (omega arith))

      -- the pixel read back is the colour
      pub pixel_back : (out_channels p g ≡ 3) ⊎ (out_channels p g ≡ 4)
          → (out_channels p g ≡ 3 → (colour_out i (first + j)).a ≡ one)
          → pixel_at (rows_of p g first rows) (out_width p g) (out_channels p g) i j ≡ colour_out i (first + j)
      unfolding rows_of
      pixel_back C o = band_back (source_of p g) (mapped_of p g) (out_width p g) first rows out_fits i j a b
          (out_channels p g) C o

    -- whatever holds of every component of every pixel's colour holds of every sample
    pub samples_all : (first rows : ℕ) → (out_channels p g ≡ 3) ⊎ (out_channels p g ≡ 4) → (Q : Float → Type 0)
        → ((i j k : ℕ) → i < out_width p g → j < rows → k < out_channels p g → Q (part (colour_out i (first + j)) k))
        → (n : ℕ) → n < rows * out_width p g * out_channels p g → Q (sample_at (rows_of p g first rows) n)
    unfolding rows_of
    samples_all first rows C Q h n l =
        band_all (source_of p g) (mapped_of p g) (out_channels p g) (out_width p g) first rows out_fits C Q h n l
