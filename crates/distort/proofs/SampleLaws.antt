-- The samples of pieces of one length, one after another; a stored pixel's own samples, which are its colour's
-- components, where these are f32 values; and they are: those of the picture, the surroundings and the matte, and what
-- is worked out from them. Assumes nothing.
use mathlib.Core.Path.{◌≡◌, refl, sym, ap, ◌∙◌, subst}
use mathlib.Core.Logic.{◌⊎◌, inl, inr}
use mathlib.Core.Bool.{Bool, true, false, cond}
use mathlib.Core.List.{List}
use Prim.Native.Nat.{ℕ, zero, suc, ◌+◌, ◌*◌, ◌≤◌, ◌<◌}
use native.Mathlib.Nat.{le_refl}
use native.Mathlib.Omega.{arith}
use lib.Ieee.{Float, binary32, of_bits, to_bits}
use lib.Ieee.Bits.{of_bits-fits}
use lib.Ieee.Fits.{add-fits}
use lib.ListN.{length, get_or, replicate}
use Rattle.endian.specs.Bytes.{number_at, sample_at}
use Rattle.endian.proofs.BytesLaws.{store_length}
use Rattle.endian.proofs.FloatBytes.{sample_put, sample_beside}
use Rattle.picture.specs.Colour.{luma}
use Rattle.sampler.specs.Finite.{FitsBy}
use Rattle.picture.specs.Pixel.{Picture, widened, pixel_at}
use Rattle.picture.specs.Store.{store_sample, store_rgb, narrowed, store_pixel}
use Rattle.picture.specs.declared.colour.Rgba.{Rgba}
use Rattle.sampler.proofs.InterpolateFinite.{interpolate_fits}
use Rattle.point.specs.declared.point.Point.{Point}
use Rattle.band.specs.Band.{Mapped, Source, point_at, shown, colour_at, pixel_bytes}
use Rattle.distort.specs.Job.{colour_of}
use Rattle.band.specs.Joined.{joined}
use Rattle.band.proofs.JoinedLaws.{joined_at}

-- ---- pieces of m samples each
-- a number that stands further back
number_moved : (k : ℕ) (s t : List ℕ) (a at : ℕ) → ((j : ℕ) → at ≤ j → j < at + k → get_or s (a + j) 0 ≡ get_or t j 0)
    → number_at k s (a + at) ≡ number_at k t at
unfolding number_at
number_moved zero s t a at h = refl
number_moved (suc k) s t a at h =
    ap (λ (b : ℕ). b + 256 * number_at k s (a + at + 1)) (h at (omega arith) (omega arith))
    ∙ ap (λ (n : ℕ). get_or t at 0 + 256 * n) (ap (number_at k s) (next a at)
    ∙ number_moved k s t a (at + 1) (λ j x y. h j (omega arith) (omega arith)))
  where
    next : (a at : ℕ) → a + at + 1 ≡ a + (at + 1)
    next a at = omega arith

pub sample_joined : (f : ℕ → List ℕ) (m l : ℕ) → m * 4 ≡ l → ((k : ℕ) → length (f k) ≡ l) → (n k i : ℕ) → k < n → i < m
    → sample_at (joined f n) (k * m + i) ≡ sample_at (f k) i
sample_joined f m l e h n k i a b =
    ap (λ (p : ℕ). of_bits binary32 (number_at 4 (joined f n) p)) (place k m l i e)
    ∙ ap (of_bits binary32) (number_moved 4 (joined f n) (f k) (k * l) (4 * i)
    (λ j x y. joined_at f l h n k j 0 a (inside m l i j e b y)))
  where
    place : (k m l i : ℕ) → m * 4 ≡ l → 4 * (k * m + i) ≡ k * l + 4 * i
    place k m l i e = grown k m i ∙ ap (λ (z : ℕ). k * z + 4 * i) e
      where
        grown : (k m i : ℕ) → 4 * (k * m + i) ≡ k * (m * 4) + 4 * i
        grown k m i = omega arith

    inside : (m l i j : ℕ) → m * 4 ≡ l → i < m → j < 4 * i + 4 → j < l
    inside m l i j e b y = omega arith

-- ---- a pixel's own samples
-- r, g, b, a
abbrev pub part : Rgba → ℕ → Float
part c zero = c.r
part c (suc zero) = c.g
part c (suc (suc zero)) = c.b
part c (suc (suc (suc n))) = c.a

module _ (z : List ℕ) (c : Rgba) (F : FitsBy c) (room : 12 ≤ length z) where
  rgb_0 : sample_at (store_rgb z 0 c) 0 ≡ c.r
  rgb_0 = sample_beside _ 2 c.b 0 (λ e. omega arith) ∙ sample_beside _ 1 c.g 0 (λ e. omega arith)
      ∙ sample_put z 0 c.r F.red (omega arith)

  rgb_1 : sample_at (store_rgb z 0 c) 1 ≡ c.g
  rgb_1 = sample_beside _ 2 c.b 1 (λ e. omega arith)
      ∙ sample_put (store_sample z 0 c.r) 1 c.g F.green
      (omega (arith, store_length 4 z 0 (to_bits binary32 c.r)))

  rgb_2 : sample_at (store_rgb z 0 c) 2 ≡ c.b
  rgb_2 =
      sample_put (store_sample (store_sample z 0 c.r) 1 c.g) 2 c.b F.blue
      (omega (
        arith,
        store_length 4 z 0 (to_bits binary32 c.r),
        store_length 4 (store_sample z 0 c.r) 4 (to_bits binary32 c.g),
      ))

three_sample : (c : Rgba) → FitsBy c → (k : ℕ) → k < 3 → sample_at (pixel_bytes 3 c) k ≡ part c k
unfolding store_pixel narrowed
three_sample c F zero h = rgb_0 (replicate 12 0) c F (omega arith)
three_sample c F (suc zero) h = rgb_1 (replicate 12 0) c F (omega arith)
three_sample c F (suc (suc zero)) h = rgb_2 (replicate 12 0) c F (omega arith)
three_sample c F (suc (suc (suc k))) h = absurd (past k h)
  where
    past : (k : ℕ) → suc (suc (suc k)) < 3 → ⊥
    past k h = omega arith

four_sample : (c : Rgba) → FitsBy c → (k : ℕ) → k < 4 → sample_at (pixel_bytes 4 c) k ≡ part c k
unfolding store_pixel narrowed
four_sample c F zero h = sample_beside _ 3 c.a 0 (λ e. omega arith) ∙ rgb_0 (replicate 16 0) c F (omega arith)
four_sample c F (suc zero) h = sample_beside _ 3 c.a 1 (λ e. omega arith) ∙ rgb_1 (replicate 16 0) c F (omega arith)
four_sample c F (suc (suc zero)) h = sample_beside _ 3 c.a 2 (λ e. omega arith)
    ∙ rgb_2 (replicate 16 0) c F (omega arith)
four_sample c F (suc (suc (suc zero))) h =
    sample_put (store_rgb (replicate 16 0) 0 c) 3 c.a F.alpha (subst (λ (n : ℕ). 16 ≤ n) (sym long) (le_refl 16))
  where
    long : length (store_rgb (replicate 16 0) 0 c) ≡ 16
    long = store_length 4 _ 8 (to_bits binary32 c.b) ∙ store_length 4 _ 4 (to_bits binary32 c.g)
        ∙ store_length 4 (replicate 16 0) 0 (to_bits binary32 c.r)
four_sample c F (suc (suc (suc (suc k)))) h = absurd (past k h)
  where
    past : (k : ℕ) → suc (suc (suc (suc k))) < 4 → ⊥
    past k h = omega arith

-- three channels are r, g, b, and four have a besides
pub pixel_sample : (channels : ℕ) (c : Rgba) → (channels ≡ 3) ⊎ (channels ≡ 4) → FitsBy c → (k : ℕ) → k < channels
    → sample_at (pixel_bytes channels c) k ≡ part c k
pixel_sample channels c (inl e) F k h =
    ap (λ (n : ℕ). sample_at (pixel_bytes n c) k) e ∙ three_sample c F k (subst (λ (n : ℕ). k < n) e h)
pixel_sample channels c (inr e) F k h =
    ap (λ (n : ℕ). sample_at (pixel_bytes n c) k) e ∙ four_sample c F k (subst (λ (n : ℕ). k < n) e h)

-- one channel is the luma
pub pixel_grey : (c : Rgba) → sample_at (pixel_bytes 1 c) 0 ≡ luma c
unfolding store_pixel narrowed
pixel_grey c = sample_put (replicate 4 0) 0 (luma c) (add-fits binary32 _ _) (omega arith)

-- ---- the colours are f32 values
pub colour_of_fits : (bytes : List ℕ) → FitsBy (colour_of bytes)
unfolding pixel_at widened
colour_of_fits bytes = record {
  red = of_bits-fits binary32 _;
  green = of_bits-fits binary32 _;
  blue = of_bits-fits binary32 _;
  alpha = of_bits-fits binary32 _;
}

pub colour_fits : (s : Source) (f : Mapped)
    → Picture s.image.bytes s.image.width s.image.height s.image.channels → FitsBy s.background
    → FitsBy s.matte
    → (i j : ℕ) → FitsBy (colour_at s f i j)
unfolding shown
colour_fits s f P B M i j = go (point_at f i j)
  where
    either : (t : Bool) (x y : Rgba) → FitsBy x → FitsBy y → FitsBy (cond t x y)
    either true x y p q = p
    either false x y p q = q

    go : (p : Point) → FitsBy (shown s p)
    go p = either p.usable _ _ (interpolate_fits _ _ _ _ _ _ _ _ _ P B) M
