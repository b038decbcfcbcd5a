-- A cell with a pixel to its right has a next cell, which lies inside as well: so its red is a number like the cell's
-- own colours. Assumes nothing.
use mathlib.Core.List.{List}
use Prim.Native.Nat.{ℕ, ◌+◌, ◌<◌}
use native.Mathlib.Omega.{arith}
use lib.Ieee.{Float}
use lib.ListN.{get_or}
use Rattle.exact.specs.Weighted.{Unit32}
use Rattle.picture.specs.Pixel.{Picture}
use Rattle.picture.specs.Store.{Numbers}
use Rattle.fast_colours.specs.InsideSpan.{CellsInside, Fractions, Weights}
use Rattle.fast_colours.proofs.NumberLaws.{blend_numbers}
use Rattle.sampler.specs.TwoByTwo.{Weighed, mixed}
use Rattle.sampler.proofs.MixedLaws.{mixed_blend}
use Rattle.fast_colours.specs.Broad.{broad, Beside}

module _ {bytes : List ℕ} {w h : ℕ} (P : Picture bytes w h 3) where
  cell_numbers : (i j : ℕ) → i + 1 < w → j + 1 < h → {tx ty a b c d s : Float} → Unit32 tx → Unit32 ty
      → Weighed tx ty a b c d s → Numbers (mixed bytes w 3 i j a b c d s)
  cell_numbers i j hi hj {tx} {ty} x y W =
      rw (mixed_blend bytes w 3 i j tx ty x y W) (blend_numbers bytes w h 3 i j P hi hj tx ty x y)

  broad_numbers : (i j : ℕ) → i + 2 < w → j + 1 < h → {tx ty a b c d s : Float} → Unit32 tx → Unit32 ty
      → Weighed tx ty a b c d s → Numbers (broad bytes w i j a b c d s)
  broad_numbers i j hi hj x y W =
      let own = cell_numbers i j (omega arith) hj x y W in
      record {
        red = own.red;
        green = own.green;
        blue = own.blue;
        alpha = (cell_numbers (i + 1) j (omega arith) hj x y W).red;
        grey = own.grey;
      }

  pub all_beside : {n : ℕ} {columns rows : List ℕ} {xs ys : List Float} {ws : List (List Float)}
      → CellsInside w h n columns rows
      → ((k : ℕ) → k < n → get_or columns k 0 + 2 < w) → Fractions n xs → Fractions n ys
      → Weights n xs ys ws → Beside bytes w h n columns rows ws
  all_beside {n} {columns} {rows} I B X Y W =
      record {
        column = B;
        row = I.row;
        numbers = λ k l. broad_numbers (get_or columns k 0) (get_or rows k 0) (B k l) (I.row k l) (X.unit k l)
            (Y.unit k l) (W.weighed k l);
      }
