-- Sixteen taps: a row of four is four steps of the sums, and its weights are products.
-- Provides: `row_room`, `row_small`, `row_fits` (a row's samples); `line_lined` (a row of the sums). Assumes nothing.
use mathlib.Core.Path.{◌≡◌, refl, sym, ap, ◌∙◌}
use mathlib.Core.List.{List}
use Prim.Native.Nat.{ℕ, ◌+◌, ◌*◌, ◌/◌, ◌%◌, ◌≤◌, ◌<◌}
use native.Mathlib.Nat.{le_refl, mul-le-mul}
use native.Mathlib.Omega.{arith}
use lib.Arith.{digits_div, digits_mod}
use lib.Dec.{lit≤}
use lib.IntN.{pos}
use lib.ListN.{length}
use lib.Ieee.{Float, nan}
use Rattle.exact.specs.Loop.{up_to}
use Rattle.exact.specs.Single.{◌⊗◌}
use Rattle.picture.specs.Pixel.{Inside, Picture, widened, pixel_at}
use Rattle.picture.proofs.PixelCode as PixelCode
use Rattle.picture.proofs.PixelCode.{room}
use Rattle.taps.specs.Cell.{Cell}
use Rattle.taps.specs.Taps.{taps}
use Rattle.taps.specs.Weighted.{added, weight_at, lined}
use Rattle.taps.specs.Weights.{products}
use Rattle.taps.specs.declared.weighted.Sums.{Sums}
use Rattle.taps.proofs.TapsLaws.{sixteen_at, number_small, step, started, grown, row_done}
use Rattle.sampler.specs.FourByFour.{own, line_sums}

-- ---- the samples of four pixels in a row
module _ {bytes : List ℕ} {w h n : ℕ} (i j m : ℕ) (P : Picture bytes w h n) (hi : i + 3 < w) (hj : j + 3 < h)
    (hm : m < 4) where
  last : Inside bytes w n (i + 3) (j + m)
  last = record { height = h; picture = P; column = hi; row = omega arith }

  pub row_room : (((j + m) * w + i) * n + 4 * n) * 4 ≤ length bytes
  row_room = go ((j + m) * w) (room bytes w n (i + 3) (j + m) last)
    where
      go : (k : ℕ) → ((k + (i + 3)) * n + n) * 4 ≤ length bytes → ((k + i) * n + 4 * n) * 4 ≤ length bytes
      go k e = omega arith

  pub row_small : (j + m) * w + i ≤ 0x100_0000
  row_small = go ((j + m) * w) (PixelCode.number_small bytes w n (i + 3) (j + m) last)
    where
      go : (k : ℕ) → k + (i + 3) ≤ 0x100_0000 → k + i ≤ 0x100_0000
      go k e = omega arith

  pub row_fits : ((j + m) * w + i) * n ≤ 0x400_0000
  row_fits = mul-le-mul row_small P.channels_most

-- ---- a row of the sums
-- the weight numbered i in row m
product_at : (wx wy : List Float) (m i : ℕ) → m < 4 → i < 4
    → weight_at (products wx wy) (m * 4 + i) ≡ weight_at wx i ⊗ weight_at wy m
product_at wx wy m i hm hi =
    sixteen_at (λ (k : ℕ). weight_at wx (k % 4) ⊗ weight_at wy (k / 4)) nan (m * 4 + i)
    (number_small 4 m i hm hi (le_refl 4))
    ∙ (λ t. weight_at wx (digits_mod m hi t) ⊗ weight_at wy (digits_div m hi t))

-- the tap numbered i in row m
own_at : (bytes : List ℕ) (w n x y m i : ℕ)
    → widened bytes n (((y + m) * w + x) * n + i * n) ≡ pixel_at bytes w n (x + i) (y + m)
unfolding pixel_at
own_at bytes w n x y m i = ap (widened bytes n) (omega arith)

module _ (bytes : List ℕ) (w n x y : ℕ) (wx wy : List Float) (m : ℕ) (hm : m < 4) where
  abbrev c : Cell
  c = record { column = pos x; row = pos y }

  -- one tap more
  next : (i k : ℕ) (start s r : Sums) → i < 4 → k ≡ ((y + m) * w + x) * n + i * n
      → s ≡ up_to (step (own bytes w n) c 4 (products wx wy)) (m * 4) (m * 4 + i) start
      → r ≡ added (widened bytes n k) (weight_at wx i ⊗ weight_at wy m) s
      → r ≡ up_to (step (own bytes w n) c 4 (products wx wy)) (m * 4) (m * 4 + (i + 1)) start
  next i k start s r hi ek inv e =
      grown (own bytes w n) c 4 (products wx wy) m i start (widened bytes n k) s r hm hi (le_refl 4)
      (ap (widened bytes n) ek ∙ own_at bytes w n x y m i) inv
      (e ∙ ap (λ (v : Float). added (widened bytes n k) v s) (sym (product_at wx wy m i hm hi)))

  pub line_lined : (k : ℕ) (v : Float) (s r : Sums) → k ≡ ((y + m) * w + x) * n → v ≡ weight_at wy m
      → r ≡ line_sums bytes n k wx v s → r ≡ lined (taps (own bytes w n) c 4) (products wx wy) 4 m s
  unfolding line_sums
  line_lined k v s r ek ev e =
      row_done (own bytes w n) c 4 (products wx wy) m 4 s r (le_refl 4) (le_refl 4)
      (next 3 (k + 3 * n) s _ r (lit≤ tt) (omega arith)
      (next 2 (k + 2 * n) s _ _ (lit≤ tt) (omega arith)
      (next 1 (k + n) s _ _ (lit≤ tt) (omega arith)
      (next 0 k s s _ (lit≤ tt) (omega arith) (started (own bytes w n) c 4 (products wx wy) m s) refl) refl) refl)
      (e ∙ ap (λ (z : Float). line_sums bytes n k wx z s) ev))
