-- The third demand: the chain conditions (specification 11.2), and what is claimed of the picture after a list of calls
-- (11.4). Assumes nothing.
use Rattle.std.specs.Prelude.{ℕ, ◌+◌, ◌*◌, ◌<◌, ◌≡◌, ◌⊎◌, List, [], T, length, Float}
use Rattle.std.specs.Float.Ieee.Scale.{finite}
use Rattle.exact.specs.Fraction.{Fraction, frac, value, Within, Unit01}
use Rattle.exact.specs.Each.{Each}
use Rattle.exact.specs.Sums.{asked_f}
use Rattle.endian.specs.Bytes.{sample_at}
use Rattle.arguments.specs.Method as Method
use Rattle.chain.specs.Conditions.{Meets}
use Rattle.policies.specs.Named.{transparent_code}
use Rattle.taps.specs.Interpolation.{bilinear_code}
use Rattle.picture.specs.Colour.{one}
use Rattle.picture.specs.declared.colour.Rgba.{Rgba}
use Rattle.distort.specs.Job.{Image, Call, colour_of}
use Rattle.distort.specs.Refusal.{fit_of}
use Rattle.chain.specs.Exact.{ExactImage, place, exactly, exact_chain}
use Rattle.chain.specs.Warps.{Warp, width_in, height_in, x_in, y_in, after}

-- ---- the conditions
-- a number from 0 to 1
pub record InUnit (x : Float) : Type 0 where
  pub number : T (finite x)
  pub unit : Unit01 (value x)

-- three channels, or four with alpha 1; samples from 0 to 1. Its size may be anything that its bytes are as many as.
pub record First (p : Image) : Type 0 where
  pub colours : (p.channels ≡ 3) ⊎ (p.channels ≡ 4)
  pub whole : length p.bytes ≡ p.width * p.height * p.channels * 4
  pub samples : (k : ℕ) → k < p.width * p.height * p.channels → InUnit (sample_at p.bytes k)
  pub alphas : p.channels ≡ 4 → (n : ℕ) → n < p.width * p.height → sample_at p.bytes (n * 4 + 3) ≡ one

-- a colour from 0 to 1 with alpha 1
pub record OpaqueColour (c : Rgba) : Type 0 where
  pub red : InUnit c.r
  pub green : InUnit c.g
  pub blue : InUnit c.b
  pub alpha : c.a ≡ one

-- the six methods whose source point is a sum or a quotient of sums
pub data Chained : ℕ → Type 0 where
  by_affine : Chained Method.affine_code
  by_affine_projection : Chained Method.affine_projection_code
  by_perspective : Chained Method.perspective_code
  by_perspective_projection : Chained Method.perspective_projection_code
  by_bilinear_reverse : Chained Method.bilinear_reverse_code
  by_polynomial : Chained Method.polynomial_code

-- of a warp: method, interpolation, policy, background, and the sums at every output pixel, with the fit's own
-- coefficients
pub record Conditions (w : Warp) : Type 0 where
  pub method : Chained w.given.method
  pub interpolation : w.given.interpolation ≡ bilinear_code
  pub policy : w.given.policy ≡ transparent_code → ⊥
  pub background : OpaqueColour (colour_of w.given.background)
  pub pixels : (i j : ℕ) → i < width_in w.answered → j < height_in w.answered
      → Meets (fit_of w.chain w.given).mapping.kind (fit_of w.chain w.given).mapping.order
      (fit_of w.chain w.given).mapping.coef (asked_f i (x_in w.answered)) (asked_f j (y_in w.answered))

-- a warp is lent the whole band of the last warp before it, with the size and channels from that one's answer, or the
-- first picture where there was none
abbrev pub Lent : Warp → Type 0
Lent w = w.lent ≡ w.chain

-- ---- the claim
abbrev pub sample_of : Image → ℕ → ℕ → ℕ → Float
sample_of p i j k = sample_at p.bytes (place p.width p.channels i j k)

-- the error that n warps may pile up
abbrev pub allowed_error : ℕ → Fraction
allowed_error n = frac n 524288

-- the sample of channel k at column i and row j: a number from 0 to 1, and at most n/524,288 from the exact one at its
-- place
pub record NearSample (p : Image) (q : ExactImage) (n i j k : ℕ) : Type 0 where
  pub is : InUnit (sample_of p i j k)
  pub near : Within (value (sample_of p i j k)) (q.sample i j k) (allowed_error n)

-- the size and channels of the exact picture, and so at every sample; every alpha is 1
pub record Near (p : Image) (q : ExactImage) (n : ℕ) : Type 0 where
  pub width : p.width ≡ q.width
  pub height : p.height ≡ q.height
  pub channels : p.channels ≡ q.channels
  pub whole : length p.bytes ≡ p.width * p.height * p.channels * 4
  pub samples : (i j k : ℕ) → i < p.width → j < p.height → k < p.channels → NearSample p q n i j k
  pub alphas : p.channels ≡ 4 → (i j : ℕ) → i < p.width → j < p.height → sample_of p i j 3 ≡ one

-- ---- the demand, of every first picture and every list of calls
abbrev pub warps_of : Image → List Call → List Warp
warps_of first calls = (after first calls).warps

abbrev pub ThirdDemand : Type 0
ThirdDemand =
    (first : Image) (calls : List Call) → First first → Each Lent (warps_of first calls)
    → Each Conditions (warps_of first calls)
    → Near (after first calls).image (exact_chain (exactly first) (warps_of first calls)) (length (warps_of first calls))

-- with no warps both pictures are equal
abbrev pub NoWarps : Type 0
NoWarps =
    (first : Image) (calls : List Call) → warps_of first calls ≡ []
    → ((after first calls).image ≡ first) × (exact_chain (exactly first) (warps_of first calls) ≡ exactly first)
