-- The cells of a span's points: for each of its coordinates the column or row that lies below it in index space, as a
-- natural number, and the fraction. Only coordinates that can be used and lie inside the picture have one. Assumes
-- nothing.
use Rattle.std.specs.Prelude.{◌≡◌, List, ℕ, ◌<◌, T, pos, get_or, Float}
use Rattle.std.specs.Float.{nan}
use Rattle.exact.specs.Double.{◌⊖◌, usable_limit}
use Rattle.exact.specs.Warp.{half}
use Rattle.number.specs.Floor.{floor_i64}
use Rattle.number.specs.Magnitude.{within}
use Rattle.taps.specs.Cell as Taps
use Rattle.taps.specs.declared.interpolation.Interpolation.{Interpolation}

-- the coordinate u can be used, the whole number below u - 0.5 is c, which is less than `index_limit`, and t is the
-- fraction
pub record CellOf (reach : ℕ) (u : Float) (c : ℕ) (t : Float) : Type 0 where
  pub usable : T (within usable_limit u)
  pub reached : Taps.Reached (u ⊖ half)
  pub below : c < reach
  pub floor : floor_i64 (u ⊖ half) ≡ pos c
  pub fraction : t ≡ Taps.fraction (u ⊖ half)

-- the first n of three lists are such cells
pub record Cells (reach n : ℕ) (us : List Float) (cs : List ℕ) (ts : List Float) : Type 0 where
  pub cell : (k : ℕ) → k < n → CellOf reach (get_or us k nan) (get_or cs k 0) (get_or ts k nan)

-- the same with no fraction: the one tap of `Integer` or `Nearest` is at c
pub record Place (i : Interpolation) (reach : ℕ) (u : Float) (c : ℕ) : Type 0 where
  pub usable : T (within usable_limit u)
  pub reached : Taps.Reached (u ⊖ half)
  pub below : c < reach
  pub first : Taps.first i (u ⊖ half) ≡ pos c

pub record Places (i : Interpolation) (reach n : ℕ) (us : List Float) (cs : List ℕ) : Type 0 where
  pub place : (k : ℕ) → k < n → Place i reach (get_or us k nan) (get_or cs k 0)
