-- A stored pixel keeps the length of the bytes. By the number of channels. Assumes nothing.
use mathlib.Core.Path.{◌≡◌, ◌∙◌}
use mathlib.Core.Bool.{Bool, true, false, cond}
use mathlib.Core.List.{List}
use Prim.Native.Nat.{ℕ, ◌+◌, ◌*◌}
use lib.Dec.{eqb}
use lib.Ieee.{Float, binary32, to_bits}
use lib.ListN.{length}
use Rattle.endian.proofs.BytesLaws.{store_length}
use Rattle.picture.specs.Colour.{luma}
use Rattle.picture.specs.Store.{store_sample, store_rgb, narrowed, store_pixel}
use Rattle.picture.specs.declared.colour.Rgba.{Rgba}

-- ---- lengths

sample_length : (bytes : List ℕ) (k : ℕ) (v : Float) → length (store_sample bytes k v) ≡ length bytes
sample_length bytes k v = store_length 4 bytes (4 * k) (to_bits binary32 v)

rgb_length : (bytes : List ℕ) (k : ℕ) (c : Rgba) → length (store_rgb bytes k c) ≡ length bytes
rgb_length bytes k c = sample_length _ (k + 2) c.b ∙ sample_length _ (k + 1) c.g ∙ sample_length bytes k c.r

pub store_pixel_length : (bytes : List ℕ) (channels p : ℕ) (c : Rgba)
    → length (store_pixel bytes channels p c) ≡ length bytes
unfolding store_pixel narrowed
store_pixel_length bytes channels p c = go (p * channels) (eqb channels 4) (eqb channels 3)
  where
    go : (k : ℕ) (four three : Bool)
        → length (cond four (store_sample (store_rgb bytes k c) (k + 3) c.a)
        (cond three (store_rgb bytes k c) (store_sample bytes k (luma c)))) ≡ length bytes
    go k true three = sample_length _ (k + 3) c.a ∙ rgb_length bytes k c
    go k false true = rgb_length bytes k c
    go k false false = sample_length bytes k (luma c)
