-- Which way each interpolation's code goes: one tap, or several. By the codes one by one. Provides: `single_code`,
-- `several_code`; `sampled_code`, `interpolate_code`, `sampled_parts` (what an interpolation and a policy give is what
-- their codes do).
-- Assumes nothing.
use mathlib.Core.Path.{◌≡◌, refl, ap, ◌∙◌}
use mathlib.Core.List.{List}
use Prim.Native.Nat.{ℕ, zero, suc, ◌≤◌, ◌<◌}
use native.Mathlib.Omega.{arith}
use lib.Ieee.{Float}
use Rattle.picture.specs.declared.colour.Rgba.{Rgba}
use Rattle.taps.specs.Cell.{cell}
use Rattle.taps.specs.declared.interpolation.Interpolation.{Interpolation}
use Rattle.taps.specs.declared.sampler.Sampler.{Sampler}
use Rattle.picture.specs.At.{at}
use Rattle.picture.proofs.AtLaws.{at_code}
use Rattle.policies.specs.Named as Policies
use Rattle.taps.specs.Interpolation.{interpolation, code_of, average_code, background_code, Single}
use Rattle.taps.specs.Taps.{Plane}
use Rattle.taps.proofs.InterpolationCode.{each_code, interpolation_code}
use Rattle.sampler.specs.Interpolate.{single_tap, several, interpolated, interpolate}
use Rattle.sampler.specs.Sampled.{sampled}

module _ (plane : Plane) (background : Rgba) (x y : Float) where
  pub single_code : (code : ℕ) → Single code
      → interpolated (interpolation code) plane background x y ≡ single_tap plane (cell (interpolation code) x y)
  unfolding interpolation
  single_code zero h = refl
  single_code (suc zero) h = refl
  single_code (suc (suc n)) h = absurd (omega arith)

  pub several_code : (code : ℕ) → average_code ≤ code → code < background_code
      → interpolated (interpolation code) plane background x y ≡ several (interpolation code) plane x y
  unfolding interpolation
  several_code =
      each_code
      (λ n. average_code ≤ n → n < background_code
      → interpolated (interpolation n) plane background x y ≡ several (interpolation n) plane x y)
      (λ g h. absurd (omega arith)) (λ g h. absurd (omega arith)) (λ g h. refl) (λ g h. refl) (λ g h. refl)
      (λ g h. refl) (λ g h. refl) (λ g h. refl)
      (λ g h. absurd (omega arith)) (λ n g h. absurd (omega arith))

-- by an interpolation under a policy, as by their codes
pub sampled_code : (s : Sampler) (i : Interpolation) (x y : Float) → sampled s i x y ≡ interpolate s.picture.bytes.now
    s.picture.width s.picture.height s.picture.channels (Policies.code_of s.policy) (code_of i) s.background x y
unfolding interpolate
sampled_code s i x y = rw interpolation_code

-- and by what codes are read as
pub interpolate_code : (bytes : List ℕ) (w h n policy code : ℕ) (background : Rgba) (x y : Float)
    → interpolated (interpolation code) (at bytes w h n (Policies.code_of (Policies.policy policy)) background)
    background x y ≡ interpolate bytes w h n policy code background x y
unfolding interpolate
interpolate_code bytes w h n policy code background x y =
    ap (λ (plane : Plane). interpolated (interpolation code) plane background x y)
    (λ t i j. at_code bytes w h n policy background i j t)

-- a sampler by its parts, at what codes are read as
pub sampled_parts : (s : Sampler) (policy code : ℕ) {bytes : List ℕ} {w h n : ℕ} {background : Rgba}
    → s.picture.bytes.now ≡ bytes → s.picture.width ≡ w → s.picture.height ≡ h → s.picture.channels ≡ n
    → s.policy ≡ Policies.policy policy → s.background ≡ background
    → sampled s (interpolation code) ≡ interpolate bytes w h n policy code background
sampled_parts s policy code {bytes} {w} {h} {n} {background} eb ew eh en ep eg =
    (λ t x y. interpolated (interpolation code) (at (eb t) (ew t) (eh t) (en t) (Policies.code_of (ep t)) (eg t))
    (eg t) x y)
    ∙ (λ t x y. interpolate_code bytes w h n policy code background x y t)
