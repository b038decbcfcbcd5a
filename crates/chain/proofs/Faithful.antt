-- What an induction over the warps carries: beside the claim, that the exact picture's own samples are from 0 to 1 and
-- its alphas 1, so that the law of one warp applies again. Provides: `Faithful`; `first_faithful` (a first picture and
-- its own fractions, no warp made); `held_unit`, `opaque_picture` (in the sampler's words). Assumes nothing.
use mathlib.Core.Path.{◌≡◌, refl, sym, ap, ◌∙◌, subst}
use mathlib.Core.Logic.{◌⊎◌}
use mathlib.Core.List.{List}
use Prim.Native.Nat.{ℕ, ◌+◌, ◌*◌, ◌/◌, ◌%◌, ◌<◌}
use native.Mathlib.Nat.{div-lt_iff_lt-mul, div-add-mod', mod-lt}
use native.Mathlib.Omega.{arith}
use lib.Ieee.{Float, binary32}
use lib.Ieee.Bits.{of_bits-fits}
use Rattle.exact.specs.Fraction.{frac, value, ◌≤F◌, ◌≈◌, Unit01}
use Rattle.exact.specs.Weighted.{Unit32}
use Rattle.exact.proofs.Near.{within_same}
use Rattle.exact.proofs.Products.{eq_refl}
use Rattle.exact.proofs.Samples.{one_value}
use Rattle.endian.specs.Bytes.{sample_at, u32_at}
use Rattle.picture.specs.Colour.{one}
use Rattle.sampler.specs.Opaque.{OpaquePicture}
use Rattle.picture.specs.Pixel.{Picture}
use Rattle.distort.specs.Job.{Image}
use Rattle.chain.specs.Demand.{InUnit, First, Near, sample_of}
use Rattle.chain.specs.Exact.{ExactImage, place, exactly}
use Rattle.chain.proofs.PlaceLaws.{pixel_lt, place_lt, placed, column_lt, row_lt, channel_lt}

pub record Faithful (p : Image) (q : ExactImage) (n : ℕ) : Type 0 where
  pub near : Near p q n
  pub colours : (p.channels ≡ 3) ⊎ (p.channels ≡ 4)
  pub units : (i j k : ℕ) → i < p.width → j < p.height → k < p.channels → Unit01 (q.sample i j k)
  pub opaque : p.channels ≡ 4 → (i j : ℕ) → i < p.width → j < p.height → q.sample i j 3 ≈ frac 1 1

-- ---- at first
pub error_nonneg : (n : ℕ) → frac 0 1 ≤F frac n 524288
error_nonneg n = record { le = omega arith }

pub opaque_value : (x : Float) → x ≡ one → value x ≈ frac 1 1
opaque_value x e = subst (λ (z : Float). value z ≈ frac 1 1) (sym e) one_value

module _ (p : Image) (F : First p) where
  sample_in : (i j k : ℕ) → i < p.width → j < p.height → k < p.channels → InUnit (sample_of p i j k)
  sample_in i j k hi hj hk =
      F.samples (place p.width p.channels i j k) (place_lt p.width p.height p.channels i j k hi hj hk)

  alpha_in : p.channels ≡ 4 → (i j : ℕ) → i < p.width → j < p.height → sample_of p i j 3 ≡ one
  alpha_in e i j hi hj =
      ap (λ (c : ℕ). sample_at p.bytes ((j * p.width + i) * c + 3)) e
      ∙ F.alphas e (j * p.width + i) (pixel_lt p.width p.height i j hi hj)

  pub first_faithful : Faithful p (exactly p) 0
  first_faithful = record {
    near = record {
      width = refl;
      height = refl;
      channels = refl;
      whole = F.whole;
      samples = λ (i j k : ℕ) hi hj hk. record {
        is = sample_in i j k hi hj hk;
        near = within_same (value (sample_of p i j k)) (value (sample_of p i j k)) (frac 0 524288)
            (eq_refl (value (sample_of p i j k))) (error_nonneg 0);
      };
      alphas = alpha_in;
    };
    colours = F.colours;
    units = λ (i j k : ℕ) hi hj hk. (sample_in i j k hi hj hk).unit;
    opaque = λ e (i j : ℕ) hi hj. opaque_value (sample_of p i j 3) (alpha_in e i j hi hj);
  }

-- ---- in the sampler's words, for a size that a call is accepted with
pub held_unit : (bytes : List ℕ) (k : ℕ) → InUnit (sample_at bytes k) → Unit32 (sample_at bytes k)
held_unit bytes k u = record { number = u.number; held = of_bits-fits binary32 (u32_at bytes (4 * k)); unit = u.unit }

module _ (p : Image) (q : ExactImage) (n : ℕ) (F : Faithful p q n)
    (P : Picture p.bytes p.width p.height p.channels) where
  abbrev w : ℕ
  w = p.width

  abbrev h : ℕ
  h = p.height

  abbrev c : ℕ
  c = p.channels

  pub opaque_picture : OpaquePicture p.bytes p.width p.height p.channels
  opaque_picture = record {
    picture = P;
    colours = F.colours;
    samples = λ (m : ℕ) l.
        held_unit p.bytes m
        (subst (λ (k : ℕ). InUnit (sample_at p.bytes k)) (placed w c m)
        (F.near.samples (m / c % w) (m / c / w) (m % c) (column_lt w c m P.sizes.wide)
        (row_lt w c m h P.sizes.wide P.channels_least l) (channel_lt w c m P.channels_least)).is);
    alphas = λ e (m : ℕ) l. alpha_at m e l;
  }
    where
      alpha_at : (m : ℕ) → c ≡ 4 → m < w * h → sample_at p.bytes (m * 4 + 3) ≡ one
      alpha_at m e l =
          ap (λ (k : ℕ). sample_at p.bytes (m * k + 3)) (sym e)
          ∙ ap (λ (k : ℕ). sample_at p.bytes (k * c + 3)) (sym (div-add-mod' m w))
          ∙ F.near.alphas e (m % w) (m / w) (mod-lt m P.sizes.wide)
          ((div-lt_iff_lt-mul P.sizes.wide).1 (omega arith))
