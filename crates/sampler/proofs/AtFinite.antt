-- Where the samples of a picture and its background are numbers of at most 65,536, so are those of every colour that is
-- named; and every sample that is read is an f32 value. Provides: `within_bounded` (from the test of a sample),
-- `bounded_more`, `pixel_bounded`, `at_bounded`, `at_fits`. Assumes nothing.
use mathlib.Core.Path.{◌≡◌, refl}
use mathlib.Core.Bool.{Bool, true, false, cond}
use mathlib.Core.List.{List}
use Prim.Native.Nat.{ℕ, ◌+◌, ◌*◌, ◌≤◌, ◌<◌}
use native.Mathlib.Nat.{mul-le-mul_right}
use native.Mathlib.Omega.{arith}
use lib.Dec.{T, eqb, lit≤}
use lib.IntN.{ℤ}
use lib.Ieee.{Float, binary32, of_bits, fits}
use lib.Ieee.Bits.{of_bits-fits}
use lib.Ieee.Scale.{finite}
use borrow.Author.Tests.{eqb-true}
use Rattle.exact.specs.Fraction.{Fraction, frac, value, ◌≤F◌, ◌≈◌, abs_f}
use Rattle.exact.proofs.Near.{le_trans}
use Rattle.exact.proofs.Products.{le_same}
use Rattle.exact.proofs.Signed.{le_value}
use Rattle.endian.specs.Bytes.{sample_at, sample_limit}
use Rattle.number.specs.Magnitude.{abs, within}
use Rattle.number.proofs.MagnitudeLaws.{abs_limited}
use Rattle.picture.specs.At.{at}
use Rattle.picture.specs.Colour.{zero, half, one, grey}
use Rattle.sampler.specs.Finite.{BoundedPicture, FitsBy}
use Rattle.picture.specs.Pixel.{Picture, widened, pixel_at}
use Rattle.taps.specs.Weighted.{Bounded, BoundedBy}
use Rattle.picture.specs.declared.colour.Rgba.{Rgba}
use Rattle.picture.proofs.AtLaws.{at_keep}
use Rattle.picture.proofs.PixelCode.{number_lt}
use Rattle.cubic.proofs.Sizes.{abs_magnitude}

-- ---- numbers of bounded magnitude
limit_number : T (finite sample_limit)
limit_number = unfold of_bits in tt

limit_value : value sample_limit ≈ frac 65536 1
limit_value = unfold of_bits in record { eq = refl }

pub within_bounded : (x : Float) → T (within sample_limit x) → Bounded (frac 65536 1) x
unfolding within
within_bounded x h =
    let n = abs_limited x sample_limit limit_number h in
    let m = abs_magnitude x n in
    record { number = n; size = le_same m.1 limit_value ((le_value (abs x) sample_limit m.0 limit_number).0 h) }

pub bounded_more : {b d : Fraction} → b ≤F d → (p : Rgba) → BoundedBy b p → BoundedBy d p
bounded_more {b} {d} h p q =
    record { red = more q.red; green = more q.green; blue = more q.blue; alpha = more q.alpha }
  where
    more : {x : Float} → Bounded b x → Bounded d x
    more {x} c = record { number = c.number; size = le_trans (abs_f (value x)) b d c.size h }

zero_bounded : Bounded (frac 65536 1) zero
unfolding of_bits abs_f
zero_bounded = record { number = tt; size = record { le = lit≤ tt } }

half_bounded : Bounded (frac 65536 1) half
unfolding of_bits abs_f
half_bounded = record { number = tt; size = record { le = lit≤ tt } }

one_bounded : Bounded (frac 65536 1) one
unfolding of_bits abs_f
one_bounded = record { number = tt; size = record { le = lit≤ tt } }

grey_bounded : (v a : Float) → Bounded (frac 65536 1) v → Bounded (frac 65536 1) a → BoundedBy (frac 65536 1) (grey v a)
grey_bounded v a p q = record { red = p; green = p; blue = p; alpha = q }

-- ---- a pixel
module _ (bytes : List ℕ) (w h c n : ℕ) (P : BoundedPicture bytes w h c) (g : n + 1 ≤ h * w) where
  sample : (i : ℕ) → i < c → Bounded (frac 65536 1) (sample_at bytes (n * c + i))
  sample i l = P.samples (n * c + i) (go (mul-le-mul_right c g))
    where
      go : (n + 1) * c ≤ h * w * c → n * c + i < w * h * c
      go k = omega arith

  start : Bounded (frac 65536 1) (sample_at bytes (n * c))
  start = P.samples (n * c) (go (mul-le-mul_right c g) P.picture.channels_least)
    where
      go : (n + 1) * c ≤ h * w * c → 0 < c → n * c < w * h * c
      go k l = omega arith

  widened_bounded : BoundedBy (frac 65536 1) (widened bytes c (n * c))
  unfolding widened
  widened_bounded = pick (eqb c 4) refl (eqb c 3) refl
    where
      enough : (k i : ℕ) → eqb c k ≡ true → i < k → i < c
      enough k i e l = let t = eqb-true c k e in omega arith

      pick : (s : Bool) → eqb c 4 ≡ s → (t : Bool) → eqb c 3 ≡ t
          → BoundedBy (frac 65536 1)
          (cond s (record {
            r = sample_at bytes (n * c);
            g = sample_at bytes (n * c + 1);
            b = sample_at bytes (n * c + 2);
            a = sample_at bytes (n * c + 3);
          })
          (cond t (record {
            r = sample_at bytes (n * c);
            g = sample_at bytes (n * c + 1);
            b = sample_at bytes (n * c + 2);
            a = one;
          }) (grey (sample_at bytes (n * c)) one)))
      pick true d t e = record {
        red = start;
        green = sample 1 (enough 4 1 d (lit≤ tt));
        blue = sample 2 (enough 4 2 d (lit≤ tt));
        alpha = sample 3 (enough 4 3 d (lit≤ tt));
      }
      pick false d true e = record {
        red = start;
        green = sample 1 (enough 3 1 e (lit≤ tt));
        blue = sample 2 (enough 3 2 e (lit≤ tt));
        alpha = one_bounded;
      }
      pick false d false e = grey_bounded (sample_at bytes (n * c)) one start one_bounded

-- ---- the laws
pub pixel_bounded : {bytes : List ℕ} {w h channels : ℕ} → BoundedPicture bytes w h channels → (x y : ℕ) → x < w → y < h
    → BoundedBy (frac 65536 1) (pixel_at bytes w channels x y)
unfolding pixel_at
pixel_bounded {bytes} {w} {h} {channels} P x y hx hy =
    widened_bounded bytes w h channels (y * w + x) P (number_lt w h x y hx hy)

pub at_bounded : (bytes : List ℕ) (w h channels code : ℕ) (background : Rgba) → BoundedPicture bytes w h channels
    → BoundedBy (frac 65536 1) background → (i j : ℤ)
    → BoundedBy (frac 65536 1) (at bytes w h channels code background i j)
at_bounded bytes w h channels code background P B i j =
    at_keep (BoundedBy (frac 65536 1)) bytes w h channels (pixel_bounded P) background B
    (grey_bounded zero one zero_bounded one_bounded) (grey_bounded one one one_bounded one_bounded)
    (grey_bounded half one half_bounded one_bounded) P.picture code i j
    (λ f. grey_bounded zero zero zero_bounded zero_bounded)

sample_fits : (bytes : List ℕ) (k : ℕ) → T (fits binary32 (sample_at bytes k))
sample_fits bytes k = of_bits-fits binary32 _

bits_fits : (b : ℕ) → T (fits binary32 (of_bits binary32 b))
bits_fits b = of_bits-fits binary32 b

grey_fits : (v a : Float) → T (fits binary32 v) → T (fits binary32 a) → FitsBy (grey v a)
grey_fits v a p q = record { red = p; green = p; blue = p; alpha = q }

widened_fits : (bytes : List ℕ) (c k : ℕ) → FitsBy (widened bytes c k)
unfolding widened
widened_fits bytes c k = pick (eqb c 4) (eqb c 3)
  where
    pick : (s t : Bool)
        → FitsBy (cond s (record {
          r = sample_at bytes k;
          g = sample_at bytes (k + 1);
          b = sample_at bytes (k + 2);
          a = sample_at bytes (k + 3);
        })
        (cond t (record { r = sample_at bytes k; g = sample_at bytes (k + 1); b = sample_at bytes (k + 2); a = one })
        (grey (sample_at bytes k) one)))
    pick true t = record {
      red = sample_fits bytes k;
      green = sample_fits bytes (k + 1);
      blue = sample_fits bytes (k + 2);
      alpha = sample_fits bytes (k + 3);
    }
    pick false true = record {
      red = sample_fits bytes k;
      green = sample_fits bytes (k + 1);
      blue = sample_fits bytes (k + 2);
      alpha = bits_fits 0x3f80_0000;
    }
    pick false false = grey_fits (sample_at bytes k) one (sample_fits bytes k) (bits_fits 0x3f80_0000)

pub at_fits : (bytes : List ℕ) (w h channels code : ℕ) (background : Rgba) → Picture bytes w h channels
    → FitsBy background → (i j : ℤ) → FitsBy (at bytes w h channels code background i j)
at_fits bytes w h channels code background P B i j =
    at_keep FitsBy bytes w h channels pixels background B (grey_fits zero one (bits_fits 0) (bits_fits 0x3f80_0000))
    (grey_fits one one (bits_fits 0x3f80_0000) (bits_fits 0x3f80_0000))
    (grey_fits half one (bits_fits 0x3f00_0000) (bits_fits 0x3f80_0000)) P code i j
    (λ f. grey_fits zero zero (bits_fits 0) (bits_fits 0))
  where
    pixels : (x y : ℕ) → x < w → y < h → FitsBy (pixel_at bytes w channels x y)
    pixels x y hx hy = unfold pixel_at in widened_fits bytes channels ((y * w + x) * channels)
