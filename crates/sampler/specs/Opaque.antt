-- What the laws of an opaque picture speak of: samples from 0 to 1, no alpha or alphas of 1, and an exact picture
-- beside it, which names a fraction for each colour and index of the plane. Assumes nothing.
use Rattle.std.specs.Prelude.{ℕ, ◌+◌, ◌*◌, ◌<◌, ◌≡◌, ◌⊎◌, List, ℤ}
use Rattle.exact.specs.Fraction.{Fraction, Unit01}
use Rattle.exact.specs.Warp.{exact_sample}
use Rattle.exact.specs.Weighted.{Unit32, Sample}
use Rattle.endian.specs.Bytes.{sample_at}
use Rattle.picture.specs.Colour.{one}
use Rattle.policies.specs.Named.{policy}
use Rattle.policies.specs.declared.policy.Policy.TheVariants.{Transparent}
use Rattle.picture.specs.Pixel.{Picture}
use Rattle.taps.specs.Taps.{Plane}
use Rattle.taps.specs.Weighted.{Opaque}
use Rattle.picture.specs.declared.colour.Rgba.{Rgba}

-- three channels, or four with every alpha 1
pub record OpaquePicture (bytes : List ℕ) (width height channels : ℕ) : Type 0 where
  pub picture : Picture bytes width height channels
  pub colours : (channels ≡ 3) ⊎ (channels ≡ 4)
  pub samples : (k : ℕ) → k < width * height * channels → Unit32 (sample_at bytes k)
  pub alphas : channels ≡ 4 → (p : ℕ) → p < width * height → sample_at bytes (p * 4 + 3) ≡ one

-- and opaque surroundings
pub record OpaquePlace (bytes : List ℕ) (width height channels code : ℕ) (background : Rgba) : Type 0 where
  pub inside : OpaquePicture bytes width height channels
  pub around : Opaque background
  pub solid : policy code ≡ Transparent → ⊥

-- ---- the exact picture over the whole plane
pub record Exact : Type 0 where
  pub red : ℤ → ℤ → Fraction
  pub green : ℤ → ℤ → Fraction
  pub blue : ℤ → ℤ → Fraction

pub record UnitExact (q : Exact) : Type 0 where
  pub red : (i j : ℤ) → Unit01 (q.red i j)
  pub green : (i j : ℤ) → Unit01 (q.green i j)
  pub blue : (i j : ℤ) → Unit01 (q.blue i j)

-- each colour of the plane is at most e away from it
pub record NearExact (plane : Plane) (q : Exact) (e : Fraction) : Type 0 where
  pub red : (i j : ℤ) → Sample (plane i j).r (q.red i j) e
  pub green : (i j : ℤ) → Sample (plane i j).g (q.green i j) e
  pub blue : (i j : ℤ) → Sample (plane i j).b (q.blue i j) e

-- each colour of m is from 0 to 1 and at most e away from the exact sample at X and Y in index space, and alpha is 1
pub record NearColour (m : Rgba) (q : Exact) (X Y e : Fraction) : Type 0 where
  pub red : Sample m.r (exact_sample q.red X Y) e
  pub green : Sample m.g (exact_sample q.green X Y) e
  pub blue : Sample m.b (exact_sample q.blue X Y) e
  pub alpha : m.a ≡ one
