-- No NaN is put. The samples of a picture are at most 65,536 in magnitude and the weights of fractions from 0 to 1 at
-- most 1, so that the weighted mean is bounded. Provides: `picture_bounded`, `bounded_numbers`, `pixel_numbers`,
-- `blend_numbers`. Assumes nothing.
use mathlib.Core.Path.{◌≡◌, subst}
use mathlib.Core.List.{List, [], ◌∷◌}
use Prim.Native.Nat.{ℕ, zero, suc, ◌+◌, ◌*◌, ◌^◌, ◌≤◌, ◌<◌}
use native.Mathlib.Omega.{arith}
use lib.Dec.{T, le→leb, lit≤}
use lib.ListN.{length}
use lib.Ieee.{Float, binary32, of_bits}
use Rattle.exact.specs.Fraction.{frac, ◌+F◌, ◌*F◌, abs_f}
use Rattle.exact.specs.Single.{◌⊗◌}
use Rattle.exact.specs.Weighted.{Unit32}
use Rattle.exact.proofs.Sums.{step_fine}
use Rattle.cubic.proofs.Sizes.{mul_bounded, add_bounded}
use Rattle.endian.specs.Bytes.{u32_at, sample_at, sample_pattern}
use Rattle.number.proofs.MagnitudeTests.{within_bits}
use Rattle.picture.specs.Colour.{luma}
use Rattle.picture.specs.Pixel.{Limited, Picture, pixel_at}
use Rattle.picture.specs.declared.colour.Rgba.{Rgba}
use Rattle.taps.specs.Weighted.{Bounded, BoundedBy, tap_at, weight_at}
use Rattle.taps.specs.Weights.{four_weights}
use Rattle.taps.proofs.CellFloor.{finite_number}
use Rattle.taps.proofs.WeightedFinite.{most, weighted_bounded}
use Rattle.taps.proofs.WeightedWeights.{bilinear_bounded}
use Rattle.sampler.specs.Finite.{BoundedPicture}
use Rattle.sampler.proofs.AtFinite.{within_bounded, bounded_more, pixel_bounded}
use Rattle.picture.specs.Store.{Numbers}
use Rattle.sampler.specs.TwoByTwo.{cell_colour}

-- ---- samples
limited_bounded : (bytes : List ℕ) → Limited bytes → (k : ℕ) → (k + 1) * 4 ≤ length bytes
    → Bounded (frac 65536 1) (sample_at bytes k)
limited_bounded bytes L k h =
    within_bounded (sample_at bytes k)
    (subst T (within_bits binary32 (u32_at bytes (4 * k)) sample_pattern (lit≤ tt))
    (le→leb _ sample_pattern (L.sample k h)))

pub picture_bounded : {bytes : List ℕ} {w h channels : ℕ} → Picture bytes w h channels
    → BoundedPicture bytes w h channels
picture_bounded {bytes} {w} {h} {channels} P =
    record {
      picture = P;
      samples = λ k l. limited_bounded bytes P.limited k
          (room k (w * h * channels) l P.whole);
    }
  where
    room : (k n : ℕ) → k < n → length bytes ≡ n * 4 → (k + 1) * 4 ≤ length bytes
    room k n l e = omega arith

-- ---- colours
-- one product of the luma, by a number of at most 1
part_bounded : {k x : Float} → Bounded (frac 1 1) k → Bounded most x → Bounded most (k ⊗ x)
part_bounded p q = mul_bounded (step_fine binary32 216 (2 ^ 67) 1 (2 ^ 42) 1 tt) p q (unfold ◌*F◌ in
    record { le = lit≤ tt })

luma_bounded : {c : Rgba} → BoundedBy most c → Bounded (frac (2 ^ 69) 1) (luma c)
luma_bounded B =
    add_bounded (step_fine binary32 218 (2 ^ 69) 1 (2 ^ 44) 1 tt)
    (add_bounded (step_fine binary32 217 (2 ^ 68) 1 (2 ^ 43) 1 tt)
    (part_bounded (unfold of_bits abs_f in record { number = tt; size = record { le = lit≤ tt } }) B.red)
    (part_bounded (unfold of_bits abs_f in record { number = tt; size = record { le = lit≤ tt } }) B.green)
    (unfold ◌+F◌ in record { le = lit≤ tt }))
    (part_bounded (unfold of_bits abs_f in record { number = tt; size = record { le = lit≤ tt } }) B.blue)
    (unfold ◌+F◌ in record { le = lit≤ tt })

pub bounded_numbers : {c : Rgba} → BoundedBy most c → Numbers c
bounded_numbers {c} B =
    record {
      red = finite_number c.r B.red.number;
      green = finite_number c.g B.green.number;
      blue = finite_number c.b B.blue.number;
      alpha = finite_number c.a B.alpha.number;
      grey = finite_number (luma c) (luma_bounded B).number;
    }

pub pixel_numbers : {bytes : List ℕ} {w h channels : ℕ} → Picture bytes w h channels → (x y : ℕ) → x < w → y < h
    → Numbers (pixel_at bytes w channels x y)
pixel_numbers P x y hx hy =
    bounded_numbers (bounded_more (record { le = lit≤ tt }) _ (pixel_bounded (picture_bounded P) x y hx hy))

module _ (bytes : List ℕ) (w h n i j : ℕ) (P : Picture bytes w h n) (hi : i + 1 < w) (hj : j + 1 < h) where
  abbrev square : List Rgba
  square = pixel_at bytes w n i j ∷ pixel_at bytes w n (i + 1) j ∷ pixel_at bytes w n i (j + 1)
      ∷ pixel_at bytes w n (i + 1) (j + 1) ∷ []

  tap_bounded : (k : ℕ) → k < 4 → BoundedBy (frac 65536 1) (tap_at square k)
  tap_bounded zero l = pixel_bounded (picture_bounded P) i j (omega arith) (omega arith)
  tap_bounded (suc zero) l = pixel_bounded (picture_bounded P) (i + 1) j hi (omega arith)
  tap_bounded (suc (suc zero)) l = pixel_bounded (picture_bounded P) i (j + 1) (omega arith) hj
  tap_bounded (suc (suc (suc zero))) l = pixel_bounded (picture_bounded P) (i + 1) (j + 1) hi hj
  tap_bounded (suc (suc (suc (suc k)))) l = absurd (omega arith)

  module _ (tx ty : Float) (x : Unit32 tx) (y : Unit32 ty) where
    weight_bounded : (k : ℕ) → k < 4 → Bounded (frac 1 1) (weight_at (four_weights tx ty) k)
    weight_bounded zero l = (bilinear_bounded tx ty x y).0
    weight_bounded (suc zero) l = (bilinear_bounded tx ty x y).1.0
    weight_bounded (suc (suc zero)) l = (bilinear_bounded tx ty x y).1.1.0
    weight_bounded (suc (suc (suc zero))) l = (bilinear_bounded tx ty x y).1.1.1
    weight_bounded (suc (suc (suc (suc k)))) l = absurd (omega arith)

    pub blend_numbers : Numbers (cell_colour bytes w n i j tx ty)
    unfolding cell_colour
    blend_numbers = bounded_numbers (weighted_bounded square (four_weights tx ty) 4 (lit≤ tt) tap_bounded weight_bounded)
