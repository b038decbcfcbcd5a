-- One pixel, or four, are what the definition takes at a point whose cell lies inside. Provides: `single_inside`,
-- `bilinear_inside`. Assumes nothing.
use mathlib.Core.Path.{◌≡◌, sym, ◌∙◌}
use mathlib.Core.List.{List, [], ◌∷◌}
use Prim.Native.Nat.{ℕ, ◌+◌, ◌<◌}
use lib.IntN.{ℤ, pos}
use lib.Ieee.{Float}
use Rattle.number.specs.Floor.{floor_i64}
use Rattle.picture.specs.At.{at}
use Rattle.picture.specs.Pixel.{pixel_at}
use Rattle.picture.specs.declared.colour.Rgba.{Rgba}
use Rattle.picture.proofs.AtLaws.{at_inside}
use Rattle.taps.specs.Cell.{first, fraction}
use Rattle.taps.specs.Interpolation.{interpolation, bilinear_code, Single}
use Rattle.taps.specs.declared.interpolation.Interpolation.TheVariants.{Bilinear}
use Rattle.taps.specs.Taps.{taps}
use Rattle.taps.specs.Weighted.{weighted}
use Rattle.taps.specs.Weights.{four_weights, weights}
use Rattle.taps.proofs.TapsLaws.{inside_taps}
use Rattle.sampler.specs.Interpolate.{interpolate}
use Rattle.sampler.proofs.InterpolateCode.{single_code}

module _ (bytes : List ℕ) (w h channels policy : ℕ) (background : Rgba) (x y : Float) where
  abbrev plane : ℤ → ℤ → Rgba
  plane = at bytes w h channels policy background

  module _ (code : ℕ) (small : Single code) where
    single_anywhere : {r : Rgba} {column row : ℤ} → column ≡ first (interpolation code) x
        → row ≡ first (interpolation code) y → r ≡ plane column row
        → r ≡ interpolate bytes w h channels policy code background x y
    unfolding interpolate
    single_anywhere ex ey e = e ∙ (λ t. plane (ex t) (ey t)) ∙ sym (single_code plane background x y code small)

    pub single_inside : {r : Rgba} (i j : ℕ) → i < w → j < h → pos i ≡ first (interpolation code) x
        → pos j ≡ first (interpolation code) y → r ≡ pixel_at bytes w channels i j
        → r ≡ interpolate bytes w h channels policy code background x y
    single_inside i j hi hj ex ey e =
        single_anywhere ex ey (e ∙ sym (at_inside bytes w h channels policy background i j hi hj))

  bilinear_anywhere : {r : Rgba} {column row : ℤ} {tx ty : Float} → column ≡ floor_i64 x → row ≡ floor_i64 y
      → tx ≡ fraction x → ty ≡ fraction y
      → r ≡ weighted (taps plane (record { column = column; row = row }) 2) (weights Bilinear tx ty) 4
      → r ≡ interpolate bytes w h channels policy bilinear_code background x y
  unfolding interpolate interpolation
  bilinear_anywhere ex ey fx fy e = e
      ∙ (λ t. weighted (taps plane (record { column = ex t; row = ey t }) 2) (weights Bilinear (fx t) (fy t)) 4)

  pub bilinear_inside : {r : Rgba} {tx ty : Float} (i j : ℕ) → i + 1 < w → j + 1 < h → pos i ≡ floor_i64 x
      → pos j ≡ floor_i64 y → tx ≡ fraction x → ty ≡ fraction y
      → r ≡ weighted (pixel_at bytes w channels i j ∷ pixel_at bytes w channels (i + 1) j
      ∷ pixel_at bytes w channels i (j + 1) ∷ pixel_at bytes w channels (i + 1) (j + 1) ∷ []) (four_weights tx ty) 4
      → r ≡ interpolate bytes w h channels policy bilinear_code background x y
  bilinear_inside {r} {tx} {ty} i j hi hj ex ey fx fy e =
      bilinear_anywhere ex ey fx fy (e ∙ inside_taps bytes w h channels policy background i j hi hj tx ty)
