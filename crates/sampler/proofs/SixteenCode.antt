-- Sixteen taps: inside they are the picture's own pixels.
-- Provides: `kernel_spline`; `cubic_inside`, `cubic_anywhere` (each way's answer). Assumes nothing.
use mathlib.Core.Path.{◌≡◌, refl, sym, ◌∙◌}
use mathlib.Core.List.{List, [], ◌∷◌}
use Prim.Native.Nat.{ℕ, ◌+◌, ◌≤◌, ◌<◌}
use native.Mathlib.Omega.{arith}
use lib.Dec.{lit≤}
use lib.IntN.{pos, ◌-ℤ◌}
use lib.Ieee.{Float}
use Rattle.number.specs.Floor.{floor_i64}
use Rattle.picture.specs.At.{at}
use Rattle.picture.specs.Pixel.{pixel_at}
use Rattle.picture.specs.declared.colour.Rgba.{Rgba}
use Rattle.picture.proofs.AtLaws.{at_inside}
use Rattle.taps.specs.Cell.{fraction}
use Rattle.cubic.specs.Cubic.{spline}
use Rattle.taps.specs.Interpolation.{interpolation, code_of, Cubic}
use Rattle.taps.specs.declared.interpolation.Interpolation.{Interpolation}
use Rattle.taps.specs.declared.interpolation.Interpolation.TheVariants.{
  Integer,
  Nearest,
  Average,
  Average9,
  Average16,
  Bilinear,
  Catrom,
  Spline,
  Background,
}
use Rattle.taps.specs.Taps.{Plane, taps}
use Rattle.taps.specs.Weighted.{weighted}
use Rattle.taps.specs.Weights.{products}
use Rattle.taps.proofs.InterpolationCode.{each_code}
use Rattle.sampler.specs.Interpolate.{several, interpolated, interpolate}
use Rattle.sampler.specs.FourByFour.{own}
use Rattle.sampler.specs.Sixteen.{kernel_of}
use Rattle.sampler.proofs.InterpolateCode.{several_code}

-- ---- the kernels
pub kernel_spline : (i : Interpolation) (t : Float) → (i ≡ Catrom → ⊥) → kernel_of (code_of i) t ≡ spline t
unfolding kernel_of
kernel_spline Integer t h = refl
kernel_spline Nearest t h = refl
kernel_spline Average t h = refl
kernel_spline Average9 t h = refl
kernel_spline Average16 t h = refl
kernel_spline Bilinear t h = refl
kernel_spline Catrom t h = absurd (h refl)
kernel_spline Spline t h = refl
kernel_spline Background t h = refl

-- ---- the answers
-- what both kernels are
cubic_code : (plane : Plane) (background : Rgba) (x y : Float) (code : ℕ) → Cubic code
    → interpolated (interpolation code) plane background x y
    ≡ weighted (taps plane (record { column = floor_i64 x -ℤ pos 1; row = floor_i64 y -ℤ pos 1 }) 4)
    (products (kernel_of code (fraction x)) (kernel_of code (fraction y))) 16
unfolding interpolation kernel_of
cubic_code plane background x y =
    each_code
    (λ n. Cubic n → interpolated (interpolation n) plane background x y ≡ weighted
    (taps plane (record { column = floor_i64 x -ℤ pos 1; row = floor_i64 y -ℤ pos 1 }) 4)
    (products (kernel_of n (fraction x)) (kernel_of n (fraction y))) 16)
    (λ g. absurd (omega arith)) (λ g. absurd (omega arith)) (λ g. absurd (omega arith))
    (λ g. absurd (omega arith)) (λ g. absurd (omega arith)) (λ g. absurd (omega arith))
    (λ g. refl) (λ g. refl) (λ g. absurd (omega arith)) (λ n g. absurd (omega arith))

module _ (bytes : List ℕ) (w h n policy : ℕ) (background : Rgba) where
  abbrev plane : Plane
  plane = at bytes w h n policy background

  -- sixteen pixels inside
  own_taps : (i j : ℕ) → i + 3 < w → j + 3 < h
      → taps (own bytes w n) (record { column = pos i; row = pos j }) 4 ≡ taps plane
      (record { column = pos i; row = pos j }) 4
  unfolding taps
  own_taps i j hi hj = λ t.
      same 0 0 (lit≤ tt) (lit≤ tt) t ∷ same 1 0 (lit≤ tt) (lit≤ tt) t ∷ same 2 0 (lit≤ tt) (lit≤ tt) t
      ∷ same 3 0 (lit≤ tt) (lit≤ tt) t
      ∷ same 0 1 (lit≤ tt) (lit≤ tt) t ∷ same 1 1 (lit≤ tt) (lit≤ tt) t ∷ same 2 1 (lit≤ tt) (lit≤ tt) t
      ∷ same 3 1 (lit≤ tt) (lit≤ tt) t
      ∷ same 0 2 (lit≤ tt) (lit≤ tt) t ∷ same 1 2 (lit≤ tt) (lit≤ tt) t ∷ same 2 2 (lit≤ tt) (lit≤ tt) t
      ∷ same 3 2 (lit≤ tt) (lit≤ tt) t
      ∷ same 0 3 (lit≤ tt) (lit≤ tt) t ∷ same 1 3 (lit≤ tt) (lit≤ tt) t ∷ same 2 3 (lit≤ tt) (lit≤ tt) t
      ∷ same 3 3 (lit≤ tt) (lit≤ tt) t ∷ []
    where
      same : (a b : ℕ) → a ≤ 3 → b ≤ 3 → pixel_at bytes w n (i + a) (j + b) ≡ plane (pos (i + a)) (pos (j + b))
      same a b ha hb = sym (at_inside bytes w h n policy background (i + a) (j + b) (omega arith) (omega arith))

  module _ (x y : Float) (code : ℕ) (cubic : Cubic code) where
    pub cubic_inside : {r : Rgba} {tx ty : Float} {wx wy : List Float} (i j : ℕ) → i + 3 < w → j + 3 < h
        → pos i ≡ floor_i64 x -ℤ pos 1 → pos j ≡ floor_i64 y -ℤ pos 1
        → tx ≡ fraction x → ty ≡ fraction y → wx ≡ kernel_of code tx → wy ≡ kernel_of code ty
        → r ≡ weighted (taps (own bytes w n) (record { column = pos i; row = pos j }) 4) (products wx wy) 16
        → r ≡ interpolate bytes w h n policy code background x y
    unfolding interpolate
    cubic_inside {r} {tx} {ty} {wx} {wy} i j hi hj ex ey fx fy kx ky e =
        e
        ∙ (λ t. weighted (own_taps i j hi hj t) (products (kx t) (ky t)) 16)
        ∙ (λ t. weighted (taps plane (record { column = ex t; row = ey t }) 4)
        (products (kernel_of code (fx t)) (kernel_of code (fy t))) 16)
        ∙ sym (cubic_code plane background x y code cubic)

    pub cubic_anywhere : {r : Rgba} → r ≡ several (interpolation code) plane x y
        → r ≡ interpolate bytes w h n policy code background x y
    unfolding interpolate
    cubic_anywhere e = e ∙ sym (several_code plane background x y code (omega arith) cubic.1)
