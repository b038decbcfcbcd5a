-- Every colour that `interpolate` gives is finite and of f32 values, where samples and background are numbers of at
-- most 65,536: one tap alone is a colour that is named, and the weights of several are at most 1 in magnitude, so that
-- the law of the weighted mean applies. Provides: `weights_each` (every interpolation's weights), `several_bounded`,
-- `interpolate_bounded`, `interpolate_fits`. Assumes nothing.
use mathlib.Core.Path.{sym, subst}
use mathlib.Core.List.{List, [], ◌∷◌}
use Prim.Native.Nat.{ℕ, zero, suc, ◌/◌, ◌%◌, ◌≤◌, ◌<◌}
use native.Mathlib.Nat.{mod-lt, div-lt_iff_lt-mul, lt_of_lt_of_le}
use native.Mathlib.Omega.{arith}
use lib.Dec.{T, lit≤}
use lib.IntN.{ℤ, pos, ◌+ℤ◌}
use lib.ListN.{get_or}
use lib.Ieee.{Float, nan, binary32, fits, lt}
use lib.Ieee.Bits.{of_bits-fits}
use lib.Ieee.Fits.{cond-fits, div-fits}
use Rattle.exact.specs.Fraction.{frac}
use Rattle.exact.specs.Single.{◌⊗◌, ◌⊘◌}
use Rattle.exact.specs.Weighted.{Unit32}
use Rattle.number.specs.Magnitude.{abs}
use Rattle.picture.specs.At.{at}
use Rattle.taps.specs.Cell.{Reached, fraction, cell}
use Rattle.picture.specs.Colour as Colour
use Rattle.cubic.specs.Cubic.{catrom, spline}
use Rattle.sampler.specs.Finite.{BoundedPicture, FitsBy}
use Rattle.sampler.specs.Interpolate.{several, interpolated, interpolate}
use Rattle.taps.specs.Interpolation.{interpolation}
use Rattle.taps.specs.declared.interpolation.Interpolation.{Interpolation}
use Rattle.taps.specs.declared.interpolation.Interpolation.TheVariants.{
  Integer,
  Nearest,
  Average,
  Average9,
  Average16,
  Bilinear,
  Catrom,
  Spline,
  Background,
}
use Rattle.picture.specs.Pixel.{Picture}
use Rattle.taps.specs.Taps.{Plane, side, count, sixteen, taps}
use Rattle.taps.specs.Weighted.{least, quotient, mean, weight_at, tap_sums, weighted, Bounded, BoundedBy}
use Rattle.taps.specs.Weights.{four_weights, products, alike_weights, weights}
use Rattle.picture.specs.declared.colour.Rgba.{Rgba}
use Rattle.taps.specs.declared.weighted.Sums.{Sums}
use Rattle.sampler.proofs.AtFinite.{bounded_more, at_bounded, at_fits}
use Rattle.taps.proofs.CellFloor.{cell_law}
use Rattle.cubic.proofs.CubicBounds.{BoundedEach, catrom_bounded, spline_bounded, product_bounded}
use Rattle.taps.proofs.TapsLaws.{sixteen_at, tap_at_law, side_small, square_small}
use Rattle.taps.proofs.WeightedFinite.{most, weighted_bounded}
use Rattle.taps.proofs.WeightedWeights.{one_bounded, bilinear_bounded}

-- ---- the weights
abbrev Small : Float → Type 0
Small w = Bounded (frac 1 1) w

of_sixteen : (f : ℕ → Float) → ((k : ℕ) → k < 16 → Small (f k)) → (k : ℕ) → k < 16 → Small (weight_at (sixteen f) k)
of_sixteen f h k l = subst Small (sym (sixteen_at f nan k l)) (h k l)

-- of four
each_at : (a b c d : Float) → BoundedEach (a ∷ b ∷ c ∷ d ∷ []) → (j : ℕ) → j < 4
    → Small (weight_at (a ∷ b ∷ c ∷ d ∷ []) j)
each_at a b c d (p, (q, (r, (s, _)))) zero l = p
each_at a b c d (p, (q, (r, (s, _)))) (suc zero) l = q
each_at a b c d (p, (q, (r, (s, _)))) (suc (suc zero)) l = r
each_at a b c d (p, (q, (r, (s, _)))) (suc (suc (suc zero))) l = s
each_at a b c d h (suc (suc (suc (suc j)))) l = absurd (omega arith)

alike_small : (k : ℕ) → k < 16 → Small (weight_at alike_weights k)
alike_small = of_sixteen (λ (k : ℕ). Colour.one) (λ k l. one_bounded)

products_small : (wx wy : List Float) → ((j : ℕ) → j < 4 → Small (weight_at wx j))
    → ((j : ℕ) → j < 4 → Small (weight_at wy j)) → (k : ℕ) → k < 16 → Small (weight_at (products wx wy) k)
products_small wx wy p q =
    of_sixteen (λ (k : ℕ). weight_at wx (k % 4) ⊗ weight_at wy (k / 4))
    (λ k l. product_bounded (weight_at wx (k % 4)) (weight_at wy (k / 4)) (p (k % 4) (mod-lt k (lit≤ tt)))
    (q (k / 4) ((div-lt_iff_lt-mul (lit≤ tt)).1 l)))

four_weights_small : (tx ty : Float) → Unit32 tx → Unit32 ty → (k : ℕ) → k < 4
    → Small (get_or (four_weights tx ty) k Colour.zero)
four_weights_small tx ty u v zero l = (bilinear_bounded tx ty u v).0
four_weights_small tx ty u v (suc zero) l = (bilinear_bounded tx ty u v).1.0
four_weights_small tx ty u v (suc (suc zero)) l = (bilinear_bounded tx ty u v).1.1.0
four_weights_small tx ty u v (suc (suc (suc zero))) l = (bilinear_bounded tx ty u v).1.1.1
four_weights_small tx ty u v (suc (suc (suc (suc k)))) l = absurd (omega arith)

count_small : (i : Interpolation) → count i ≤ 16
count_small i = square_small (side i) (side_small i)

pub weights_each : (i : Interpolation) (tx ty : Float) → Unit32 tx → Unit32 ty → (k : ℕ) → k < count i
    → Small (weight_at (weights i tx ty) k)
weights_each i tx ty u v k l = go i (lt_of_lt_of_le l (count_small i)) l
  where
    each : (f : Float → List Float) → ((t : Float) → Unit32 t → (j : ℕ) → j < 4 → Small (weight_at (f t) j)) → k < 16
        → Small (weight_at (products (f tx) (f ty)) k)
    each f h m = products_small (f tx) (f ty) (h tx u) (h ty v) k m

    go : (i : Interpolation) → k < 16 → k < count i → Small (weight_at (weights i tx ty) k)
    go Integer m l = alike_small k m
    go Nearest m l = alike_small k m
    go Average m l = alike_small k m
    go Average9 m l = alike_small k m
    go Average16 m l = alike_small k m
    go Bilinear m l = subst Small (sym (sixteen_at (λ (j : ℕ). get_or (four_weights tx ty) j Colour.zero) nan k m))
        (four_weights_small tx ty u v k l)
    go Catrom m l = each catrom (λ t w j. each_at _ _ _ _ (catrom_bounded t w) j) m
    go Spline m l = each spline (λ t w j. each_at _ _ _ _ (spline_bounded t w) j) m
    go Background m l = alike_small k m

-- ---- several taps
module _ (plane : Plane) (B : (i j : ℤ) → BoundedBy (frac 65536 1) (plane i j)) (x y : Float) (rx : Reached x)
    (ry : Reached y) where
  pub several_bounded : (i : Interpolation) → BoundedBy most (several i plane x y)
  several_bounded i =
      weighted_bounded (taps plane (cell i x y) (side i)) (weights i (fraction x) (fraction y)) (count i)
      (count_small i)
      (λ k l. subst (BoundedBy (frac 65536 1))
      (sym (tap_at_law plane (cell i x y) (side i) k (lt_of_lt_of_le l (count_small i))))
      (B ((cell i x y).column +ℤ pos (k % side i)) ((cell i x y).row +ℤ pos (k / side i))))
      (weights_each i (fraction x) (fraction y) (cell_law x rx).fraction (cell_law y ry).fraction)

  one_tap : (i j : ℤ) → BoundedBy most (plane i j)
  one_tap i j = bounded_more (record { le = lit≤ tt }) (plane i j) (B i j)

  interpolated_bounded : (background : Rgba) → BoundedBy (frac 65536 1) background → (i : Interpolation)
      → BoundedBy most (interpolated i plane background x y)
  interpolated_bounded background b Integer = one_tap (cell Integer x y).column (cell Integer x y).row
  interpolated_bounded background b Nearest = one_tap (cell Nearest x y).column (cell Nearest x y).row
  interpolated_bounded background b Average = several_bounded Average
  interpolated_bounded background b Average9 = several_bounded Average9
  interpolated_bounded background b Average16 = several_bounded Average16
  interpolated_bounded background b Bilinear = several_bounded Bilinear
  interpolated_bounded background b Catrom = several_bounded Catrom
  interpolated_bounded background b Spline = several_bounded Spline
  interpolated_bounded background b Background = bounded_more (record { le = lit≤ tt }) background b

pub interpolate_bounded : (bytes : List ℕ) (w h channels policy code : ℕ) (background : Rgba) (x y : Float)
    → BoundedPicture bytes w h channels → BoundedBy (frac 65536 1) background
    → Reached x → Reached y → BoundedBy most (interpolate bytes w h channels policy code background x y)
unfolding interpolate
interpolate_bounded bytes w h channels policy code background x y P B rx ry =
    interpolated_bounded (at bytes w h channels policy background)
    (at_bounded bytes w h channels policy background P B) x y rx ry background B (interpolation code)

-- ---- every component is an f32 value
quotient_fits : (x y : Float) → T (fits binary32 (quotient x y))
unfolding quotient
quotient_fits x y = cond-fits binary32 (lt least (abs y)) (x ⊘ y) Colour.zero (div-fits binary32 x y)
    (of_bits-fits binary32 0)

weighted_fits : (taps : List Rgba) (ws : List Float) (n : ℕ) → FitsBy (weighted taps ws n)
unfolding weighted mean
weighted_fits taps ws n =
    let s : Sums = tap_sums taps ws n in
    record {
      red = quotient_fits s.r s.a;
      green = quotient_fits s.g s.a;
      blue = quotient_fits s.b s.a;
      alpha = quotient_fits s.a s.weight;
    }

interpolated_fits : (plane : Plane) → ((i j : ℤ) → FitsBy (plane i j)) → (background : Rgba) → FitsBy background
    → (x y : Float) (i : Interpolation) → FitsBy (interpolated i plane background x y)
interpolated_fits plane F background B x y Integer = F (cell Integer x y).column (cell Integer x y).row
interpolated_fits plane F background B x y Nearest = F (cell Nearest x y).column (cell Nearest x y).row
interpolated_fits plane F background B x y Average =
    weighted_fits (taps plane (cell Average x y) 2) (weights Average (fraction x) (fraction y)) 4
interpolated_fits plane F background B x y Average9 =
    weighted_fits (taps plane (cell Average9 x y) 3) (weights Average9 (fraction x) (fraction y)) 9
interpolated_fits plane F background B x y Average16 =
    weighted_fits (taps plane (cell Average16 x y) 4) (weights Average16 (fraction x) (fraction y)) 16
interpolated_fits plane F background B x y Bilinear =
    weighted_fits (taps plane (cell Bilinear x y) 2) (weights Bilinear (fraction x) (fraction y)) 4
interpolated_fits plane F background B x y Catrom =
    weighted_fits (taps plane (cell Catrom x y) 4) (weights Catrom (fraction x) (fraction y)) 16
interpolated_fits plane F background B x y Spline =
    weighted_fits (taps plane (cell Spline x y) 4) (weights Spline (fraction x) (fraction y)) 16
interpolated_fits plane F background B x y Background = B

pub interpolate_fits : (bytes : List ℕ) (w h channels policy code : ℕ) (background : Rgba) (x y : Float)
    → Picture bytes w h channels → FitsBy background
    → FitsBy (interpolate bytes w h channels policy code background x y)
unfolding interpolate
interpolate_fits bytes w h channels policy code background x y P B =
    interpolated_fits (at bytes w h channels policy background) (at_fits bytes w h channels policy background P B)
    background B x y (interpolation code)
