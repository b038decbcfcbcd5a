-- Samples by number and by place: a place inside a picture has a number inside its bytes, and each number is that of
-- one place. By division with rest. Provides: `place_lt`, `placed`, `column_lt`, `row_lt`, `channel_lt`; `pixel_lt`.
-- Assumes nothing.
use mathlib.Core.Path.{◌≡◌, ap, ◌∙◌}
use Prim.Native.Nat.{ℕ, suc, ◌+◌, ◌*◌, ◌/◌, ◌%◌, ◌≤◌, ◌<◌}
use native.Mathlib.Nat.{mul-le-mul_right, div-lt_iff_lt-mul, div-add-mod', mod-lt}
use native.Mathlib.Omega.{arith}
use Rattle.chain.specs.Exact.{place}

-- the pixel at column i and row j, by its number
pub pixel_lt : (w h i j : ℕ) → i < w → j < h → j * w + i < w * h
pixel_lt w h i j hi hj = go (mul-le-mul_right w hj)
  where
    go : suc j * w ≤ h * w → j * w + i < w * h
    go g = omega arith

pub place_lt : (w h c i j k : ℕ) → i < w → j < h → k < c → place w c i j k < w * h * c
place_lt w h c i j k hi hj hk = go (j * w + i) (w * h) (mul-le-mul_right c (pixel_lt w h i j hi hj))
  where
    go : (n m : ℕ) → suc n * c ≤ m * c → n * c + k < m * c
    go n m g = omega arith

-- ---- the place of the sample numbered m
module _ (w c m : ℕ) where
  pub placed : place w c (m / c % w) (m / c / w) (m % c) ≡ m
  placed = ap (λ (n : ℕ). n * c + m % c) (div-add-mod' (m / c) w) ∙ div-add-mod' m c

  pub column_lt : 0 < w → m / c % w < w
  column_lt h = mod-lt (m / c) h

  pub channel_lt : 0 < c → m % c < c
  channel_lt h = mod-lt m h

  pub row_lt : (h : ℕ) → 0 < w → 0 < c → m < w * h * c → m / c / w < h
  row_lt h w0 c0 l = (div-lt_iff_lt-mul w0).1 ((div-lt_iff_lt-mul c0).1 (omega arith))
