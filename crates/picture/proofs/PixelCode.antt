-- A pixel inside a picture has its samples inside the bytes, since the rows before it, and the pixels before it in its
-- row, are whole. Products are bounded one factor at a time. Assumes nothing.
use mathlib.Core.Path.{◌≡◌, refl}
use mathlib.Core.Bool.{Bool, true, false, cond}
use mathlib.Core.List.{List}
use Prim.Native.Nat.{ℕ, suc, ◌+◌, ◌*◌, ◌≤◌, ◌<◌}
use native.Mathlib.Nat.{mul-le-mul_right, mul-le-mul}
use native.Mathlib.Omega.{arith}
use lib.Dec.{eqb}
use lib.ListN.{length}
use Rattle.endian.specs.Bytes.{sample_at}
use borrow.Author.Tests.{ne_eqb}
use Rattle.picture.specs.Pixel.{Inside, widened}
use Rattle.picture.specs.Colour.{one, grey}

-- a pixel's number is below the number of pixels
pub number_lt : (width height x y : ℕ) → x < width → y < height → y * width + x + 1 ≤ height * width
number_lt width height x y hx hy = step width height x y hx (mul-le-mul_right width hy)
  where
    step : (width height x y : ℕ) → x < width → suc y * width ≤ height * width → y * width + x + 1 ≤ height * width
    step width height x y hx h = omega arith

module _ (bytes : List ℕ) (width channels x y : ℕ) (i : Inside bytes width channels x y) where
  below : y * width + x + 1 ≤ i.height * width
  below = number_lt width i.height x y i.column i.row

  pixels : i.height * width ≤ 4096 * 4096
  pixels = mul-le-mul i.picture.sizes.height_most i.picture.sizes.width_most

  -- its samples lie inside
  pub room : ((y * width + x) * channels + channels) * 4 ≤ length bytes
  room = go (y * width + x) i.height (mul-le-mul_right channels below) i.picture.whole
    where
      go : (n h : ℕ) → (n + 1) * channels ≤ h * width * channels → length bytes ≡ width * h * channels * 4
          → (n * channels + channels) * 4 ≤ length bytes
      go n h g e = omega arith

  -- and their numbers are small
  pub number_small : y * width + x ≤ 0x100_0000
  number_small = go (y * width + x) (i.height * width) below pixels
    where
      go : (n p : ℕ) → n + 1 ≤ p → p ≤ 4096 * 4096 → n ≤ 0x100_0000
      go n p g h = omega arith

  pub sample_small : (y * width + x) * channels ≤ 0x400_0000
  sample_small = mul-le-mul number_small i.picture.channels_most

-- ---- without a fourth sample alpha is 1
pub widened_opaque : (bytes : List ℕ) (channels k : ℕ) → (channels ≡ 4 → ⊥) → (widened bytes channels k).a ≡ one
unfolding widened
widened_opaque bytes channels k four = rw (ne_eqb channels 4 four) (either (eqb channels 3))
  where
    either : (three : Bool) →
        (cond three (record { r = sample_at bytes k; g = sample_at bytes (k + 1); b = sample_at bytes (k + 2); a = one })
        (grey (sample_at bytes k) one)).a ≡ one
    either true = refl
    either false = refl
