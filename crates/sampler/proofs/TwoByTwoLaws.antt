-- The four pixels of a cell inside, by the number of the first one's first sample: the last lies inside, and the others
-- before it. Provides: `last_room`, `last_small`, `last_fits` (their samples); `own_pixel`, `next_pixel`,
-- `under_pixel`, `last_pixel` (the pixels). Assumes nothing.
use mathlib.Core.Path.{◌≡◌, refl, ap}
use mathlib.Core.List.{List}
use Prim.Native.Nat.{ℕ, ◌+◌, ◌*◌, ◌≤◌, ◌<◌}
use native.Mathlib.Omega.{arith}
use lib.ListN.{length}
use Rattle.picture.specs.Pixel.{Inside, Picture, widened, pixel_at}
use Rattle.picture.proofs.PixelCode.{room, number_small, sample_small}

module _ {bytes : List ℕ} {w h n : ℕ} (x y : ℕ) (P : Picture bytes w h n) (hx : x + 1 < w) (hy : y + 1 < h) where
  last : Inside bytes w n (x + 1) (y + 1)
  last = record { height = h; picture = P; column = hx; row = hy }

  pub last_room : (((y + 1) * w + (x + 1)) * n + n) * 4 ≤ length bytes
  last_room = room bytes w n (x + 1) (y + 1) last

  pub last_small : (y + 1) * w + (x + 1) ≤ 0x100_0000
  last_small = number_small bytes w n (x + 1) (y + 1) last

  pub last_fits : ((y + 1) * w + (x + 1)) * n ≤ 0x400_0000
  last_fits = sample_small bytes w n (x + 1) (y + 1) last

module _ (bytes : List ℕ) (w n x y : ℕ) where
  pub own_pixel : widened bytes n ((y * w + x) * n) ≡ pixel_at bytes w n x y
  unfolding pixel_at
  own_pixel = refl

  pub next_pixel : widened bytes n ((y * w + x) * n + n) ≡ pixel_at bytes w n (x + 1) y
  unfolding pixel_at
  next_pixel = ap (widened bytes n) (omega arith)

  pub under_pixel : widened bytes n ((y * w + x) * n + w * n) ≡ pixel_at bytes w n x (y + 1)
  unfolding pixel_at
  under_pixel = ap (widened bytes n) (omega arith)

  pub last_pixel : widened bytes n ((y * w + x) * n + w * n + n) ≡ pixel_at bytes w n (x + 1) (y + 1)
  unfolding pixel_at
  last_pixel = ap (widened bytes n) (omega arith)
