-- One sample of one warp, at the code's own definition. In an opaque place the colours of `Bilinear` are the exact
-- laws' own quotients at the four taps, the point lies in the cell that the code gives it, and so the law of one warp
-- applies: coordinates in, sample out. Provides: `bilinear_is` (the four taps by name), `bilinear_opaque` (their
-- colours), `sampled_near` (from coordinates to a sample). Assumes nothing.
use mathlib.Core.Path.{◌≡◌, sym, ap, ◌∙◌, subst}
use mathlib.Core.List.{List, [], ◌∷◌}
use Prim.Native.Nat.{ℕ}
use lib.IntN.{ℤ, suc_ℤ, +ℤ_idr, +ℤ_one}
use lib.Dec.{lit≤}
use lib.Ieee.{Float}
use Rattle.exact.specs.Double.{◌⊖◌}
use Rattle.exact.specs.Fraction.{Fraction, frac, ◌+F◌, ◌-F◌, Unit01}
use Rattle.exact.specs.Warp.{half, InCell, Coordinate, exact_sample}
use Rattle.exact.specs.Weighted.{w00, w10, w01, w11, colour, alpha, Unit32, Sample}
use Rattle.exact.proofs.Weighted.{alpha_one}
use Rattle.exact.proofs.Warp.{warp_demand}
use Rattle.number.specs.Floor.{floor_i64}
use Rattle.picture.specs.At.{at}
use Rattle.taps.specs.Cell.{Reached, fraction, cell}
use Rattle.sampler.specs.Interpolate.{several, interpolate}
use Rattle.taps.specs.Interpolation.{interpolation, bilinear_code}
use Rattle.taps.specs.declared.interpolation.Interpolation.TheVariants.{Bilinear}
use Rattle.sampler.specs.Opaque.{OpaquePlace, Exact, UnitExact, NearExact, NearColour}
use Rattle.taps.specs.Taps.{Plane}
use Rattle.taps.specs.Weighted.{mean, weighted, Opaque}
use Rattle.taps.specs.Weights.{four_weights}
use Rattle.picture.specs.declared.colour.Rgba.{Rgba}
use Rattle.sampler.proofs.AtOpaque.{at_opaque}
use Rattle.taps.proofs.CellFloor.{cell_law, less_half_reached}
use Rattle.taps.proofs.TapsLaws.{four_taps}
use Rattle.taps.proofs.WeightedOpaque.{four, summed_four, opaque_four}

-- ---- the four taps by name
module _ (plane : Plane) (x y : Float) where
  abbrev k : ℤ
  k = floor_i64 x

  abbrev l : ℤ
  l = floor_i64 y

  abbrev tx : Float
  tx = fraction x

  abbrev ty : Float
  ty = fraction y

  pub bilinear_is : several Bilinear plane x y ≡ mean
      (four (plane k l) (plane (suc_ℤ k) l) (plane k (suc_ℤ l)) (plane (suc_ℤ k) (suc_ℤ l)) (w00 tx ty) (w10 tx ty)
      (w01 tx ty) (w11 tx ty))
  unfolding weighted
  bilinear_is =
      sym (four_taps plane (cell Bilinear x y) tx ty)
      ∙ (λ i. weighted (plane (+ℤ_idr k i) (+ℤ_idr l i) ∷ plane (+ℤ_one k i) (+ℤ_idr l i)
      ∷ plane (+ℤ_idr k i) (+ℤ_one l i) ∷ plane (+ℤ_one k i) (+ℤ_one l i) ∷ []) (four_weights tx ty) 4)
      ∙ ap mean (summed_four (plane k l ∷ plane (suc_ℤ k) l ∷ plane k (suc_ℤ l) ∷ plane (suc_ℤ k) (suc_ℤ l) ∷ [])
      (four_weights tx ty))

  -- their colours, where all are opaque
  pub bilinear_opaque : Unit32 tx → Unit32 ty → ((i j : ℤ) → Opaque (plane i j))
      → several Bilinear plane x y
      ≡ record {
        r = colour tx ty (plane k l).r (plane (suc_ℤ k) l).r (plane k (suc_ℤ l)).r (plane (suc_ℤ k) (suc_ℤ l)).r;
        g = colour tx ty (plane k l).g (plane (suc_ℤ k) l).g (plane k (suc_ℤ l)).g (plane (suc_ℤ k) (suc_ℤ l)).g;
        b = colour tx ty (plane k l).b (plane (suc_ℤ k) l).b (plane k (suc_ℤ l)).b (plane (suc_ℤ k) (suc_ℤ l)).b;
        a = alpha tx ty;
      }
  bilinear_opaque u v o =
      bilinear_is
      ∙ opaque_four tx ty u v (plane k l) (plane (suc_ℤ k) l) (plane k (suc_ℤ l)) (plane (suc_ℤ k) (suc_ℤ l))
      (o k l).alpha (o (suc_ℤ k) l).alpha (o k (suc_ℤ l)).alpha (o (suc_ℤ k) (suc_ℤ l)).alpha

-- ---- coordinates in, sample out
module _ (bytes : List ℕ) (w h channels code : ℕ) (background : Rgba)
    (O : OpaquePlace bytes w h channels code background) where
  abbrev plane : Plane
  plane = at bytes w h channels code background

  module _ (q : Exact) (units : UnitExact q) (e : Fraction) (near : NearExact plane q e) (u v : Float)
      (U V' : Fraction) (cu : Coordinate u U) (cv : Coordinate v V') where
    point : (z : Float) (Z : Fraction) → Coordinate z Z → Reached (z ⊖ half)
    point z Z c = less_half_reached z 16385 c.number c.small (lit≤ tt)

    px : InCell (u ⊖ half) (floor_i64 (u ⊖ half)) (fraction (u ⊖ half))
    px = cell_law (u ⊖ half) (point u U cu)

    py : InCell (v ⊖ half) (floor_i64 (v ⊖ half)) (fraction (v ⊖ half))
    py = cell_law (v ⊖ half) (point v V' cv)

    -- one colour of the plane
    one_colour : (part : Rgba → Float) (Q : ℤ → ℤ → Fraction) → ((i j : ℤ) → Unit01 (Q i j))
        → ((i j : ℤ) → Sample (part (plane i j)) (Q i j) e)
        → Sample (colour (fraction (u ⊖ half)) (fraction (v ⊖ half))
        (part (plane (floor_i64 (u ⊖ half)) (floor_i64 (v ⊖ half))))
        (part (plane (suc_ℤ (floor_i64 (u ⊖ half))) (floor_i64 (v ⊖ half))))
        (part (plane (floor_i64 (u ⊖ half)) (suc_ℤ (floor_i64 (v ⊖ half)))))
        (part (plane (suc_ℤ (floor_i64 (u ⊖ half))) (suc_ℤ (floor_i64 (v ⊖ half))))))
        (exact_sample Q (U -F frac 1 2) (V' -F frac 1 2)) (e +F frac 1 524288)
    one_colour part Q unit close =
        warp_demand Q unit e u v (fraction (u ⊖ half)) (fraction (v ⊖ half)) U V' (floor_i64 (u ⊖ half))
        (floor_i64 (v ⊖ half)) cu cv px py (λ (i j : ℤ). part (plane i j)) close

    pub sampled_near : NearColour (interpolate bytes w h channels code bilinear_code background (u ⊖ half) (v ⊖ half)) q
        (U -F frac 1 2) (V' -F frac 1 2) (e +F frac 1 524288)
    unfolding interpolate interpolation
    sampled_near =
        subst (λ (m : Rgba). NearColour m q (U -F frac 1 2) (V' -F frac 1 2) (e +F frac 1 524288))
        (sym (bilinear_opaque plane (u ⊖ half) (v ⊖ half) px.fraction py.fraction
        (at_opaque bytes w h channels code background O)))
        (record {
          red = one_colour (λ c. c.r) q.red units.red near.red;
          green = one_colour (λ c. c.g) q.green units.green near.green;
          blue = one_colour (λ c. c.b) q.blue units.blue near.blue;
          alpha = alpha_one (fraction (u ⊖ half)) (fraction (v ⊖ half)) px.fraction py.fraction;
        })
