-- A span by `Catrom` or `Spline` inside: the square one before the point's cell is the one that `interpolate` takes.
-- Provides: `cubic_shown` (from cells to the band's definition). Assumes nothing.
use mathlib.Core.Path.{◌≡◌, refl, sym, ap, ◌∙◌}
use mathlib.Core.List.{List}
use Prim.Native.Nat.{ℕ, zero, suc, ◌+◌, ◌-◌, ◌<◌}
use native.Mathlib.Nat.{not-suc-le-zero}
use native.Mathlib.Omega.{arith}
use lib.IntN.{ℤ, pos, ◌-ℤ◌, -ℤ_one}
use lib.ListN.{get_or}
use lib.Ieee.{Float}
use Rattle.exact.specs.Double.{◌⊖◌}
use Rattle.exact.specs.Warp.{half}
use Rattle.exact.specs.Vector.{at}
use Rattle.picture.specs.declared.colour.Rgba.{Rgba}
use Rattle.taps.specs.Interpolation.{Cubic}
use Rattle.fast_cells.specs.Cells.{CellOf}
use Rattle.sampler.specs.Interpolate.{interpolate}
use Rattle.sampler.specs.Sixteen.{kernel_of}
use Rattle.sampler.proofs.SixteenCode.{cubic_inside}
use Rattle.band.specs.Image.{image_of}
use Rattle.fast_cubic.specs.Kernels.{Kernels, of_four}
use Rattle.fast_cubic.specs.FourByFours.{Standing, four_by_four}
use Rattle.band.proofs.InnerLaws.{Shows}
use Rattle.fast_colours.proofs.InsideSpanLaws.{marked}

-- ---- a point's own square
one_back : (c : ℕ) → 0 < c → pos c -ℤ pos 1 ≡ pos (c - 1)
one_back zero h = absurd (not-suc-le-zero h)
one_back (suc n) h = -ℤ_one (pos (suc n)) ∙ ap pos (go n)
  where
    go : (n : ℕ) → n ≡ suc n - 1
    go n = omega arith

two_on : (c n : ℕ) → 0 < c → c < n - 2 → c - 1 + 3 < n
two_on c n h l = omega arith

square_colour : (bytes : List ℕ) (w h n policy : ℕ) (background : Rgba) (code : ℕ) → Cubic code
    → {u v tx ty : Float} {i j : ℕ} {wx wy : List Float}
    → CellOf (w - 2) u i tx → CellOf (h - 2) v j ty → 0 < i → 0 < j → wx ≡ kernel_of code tx → wy ≡ kernel_of code ty
    → four_by_four bytes w n i j wx wy ≡ interpolate bytes w h n policy code background (u ⊖ half) (v ⊖ half)
unfolding four_by_four
square_colour bytes w h n policy background code cubic {u} {v} {tx} {ty} {i} {j} C D hi hj kx ky =
    cubic_inside bytes w h n policy background (u ⊖ half) (v ⊖ half) code cubic (i - 1) (j - 1)
    (two_on i w hi C.below) (two_on j h hj D.below)
    (sym (ap (λ (z : ℤ). z -ℤ pos 1) C.floor ∙ one_back i hi))
    (sym (ap (λ (z : ℤ). z -ℤ pos 1) D.floor ∙ one_back j hj)) C.fraction D.fraction kx ky refl

-- ---- a span of them
module _ {w h n : ℕ} {us vs : List Float} {columns rows : List ℕ} {xs ys : List Float}
    (S : Standing w h n us vs columns rows xs ys) where
  pub cubic_shown : {wx wy : List (List Float)} (code : ℕ) → Kernels code n xs wx → Kernels code n ys wy
      → (bytes : List ℕ) (channels : ℕ) → Cubic code
      → Shows (image_of bytes w h channels) code n us vs
      (λ (k : ℕ). four_by_four bytes w channels (get_or columns k 0) (get_or rows k 0) (of_four wx k) (of_four wy k))
  cubic_shown code X Y bytes channels cubic = record {
    marked = λ k l. marked (at us k) (at vs k) (S.across.cell k l).usable (S.down.cell k l).usable;
    same = λ k l policy background.
        square_colour bytes w h channels policy background code cubic (S.across.cell k l) (S.down.cell k l)
        (S.left.past k l) (S.above.past k l) (X.weights k l) (Y.weights k l);
  }
