-- Pixels put into the band: equal colours give equal bytes, and a span whose points can all be used, put in the
-- picture's colours there, lies inside. Provides: `put_same`; `Shows`, `inner_put`. Assumes nothing.
use mathlib.Core.Path.{◌≡◌, sym, ap, ◌∙◌}
use mathlib.Core.Bool.{Bool, true, cond, true≢false}
use mathlib.Core.List.{List, ◌++◌}
use Prim.Native.Nat.{ℕ, ◌+◌, ◌*◌, ◌≤◌, ◌<◌}
use native.Mathlib.Omega.{arith}
use lib.Ieee.{Float}
use lib.ListN.{take, drop}
use Rattle.exact.specs.Double.{◌⊖◌}
use Rattle.exact.specs.Warp.{half}
use Rattle.exact.specs.Vector.{at}
use Rattle.picture.specs.declared.colour.Rgba.{Rgba}
use Rattle.point.specs.Point.{usable}
use Rattle.sampler.specs.Interpolate.{interpolate}
use Rattle.band.specs.Band.{
  source_by,
  shown,
  kept_colour,
  kept_matte_pixels,
  pixel_bytes,
  put_pixels,
  InnerOrUntouched,
}
use Rattle.band.specs.Image.{Image}
use Rattle.band.specs.Joined.{totalled}
use Rattle.band.proofs.JoinedLaws.{joined_same, totalled_same, totalled_most}

pub put_same : (channels : ℕ) (f g : ℕ → Rgba) (n pixel : ℕ) (bytes : List ℕ) → ((k : ℕ) → k < n → f k ≡ g k)
    → put_pixels channels f n pixel bytes ≡ put_pixels channels g n pixel bytes
put_same channels f g n pixel bytes h =
    ap (λ (z : List ℕ). take (pixel * channels * 4) bytes ++ z ++ drop ((pixel + n) * channels * 4) bytes)
    (joined_same (λ (k : ℕ). pixel_bytes channels (f k)) (λ (k : ℕ). pixel_bytes channels (g k)) n
    (λ k l. ap (pixel_bytes channels) (h k l)))

-- ---- points that can be used
no_mattes : (n : ℕ) (us vs : List Float) → ((k : ℕ) → k < n → usable (at us k) (at vs k) ≡ true)
    → 0 ≡ totalled (λ (k : ℕ). kept_matte_pixels (at us k) (at vs k)) n
no_mattes n us vs h =
    sym (totalled_same (λ (k : ℕ). kept_matte_pixels (at us k) (at vs k)) (λ (k : ℕ). 0) n
    (λ k l. ap (λ (t : Bool). cond t 0 1) (h k l))
    ∙ none n (totalled_most (λ (k : ℕ). 0) 0 (λ k. omega arith) n))
  where
    none : (n : ℕ) {r : ℕ} → r ≤ n * 0 → r ≡ 0
    none n l = omega arith

-- the first n points can be used, and `colour` is the picture's there, whatever stands outside
pub record Shows (image : Image) (interpolation n : ℕ) (us vs : List Float) (colour : ℕ → Rgba) : Type 0 where
  pub marked : (k : ℕ) → k < n → usable (at us k) (at vs k) ≡ true
  pub same : (k : ℕ) → k < n → (policy : ℕ) (background : Rgba)
      → colour k ≡ interpolate image.bytes image.width image.height image.channels policy interpolation
      background (at us k ⊖ half) (at vs k ⊖ half)

pub inner_put : {image : Image} {interpolation n : ℕ} {us vs : List Float} {colour : ℕ → Rgba}
    → Shows image interpolation n us vs colour → (channels pixel : ℕ) (before : List ℕ) {after : List ℕ}
    → after ≡ put_pixels channels colour n pixel before
    → InnerOrUntouched true image interpolation channels us vs n pixel before after
unfolding shown
inner_put {image} {interpolation} {n} {us} {vs} {colour} S channels pixel before e = (
  λ _ policy background matte. (
    no_mattes n us vs S.marked,
    e ∙ put_same channels colour
        (λ (k : ℕ). kept_colour (source_by image policy interpolation background matte) (at us k) (at vs k)) n pixel
        before (λ k l. rw (S.marked k l) (S.same k l policy background)),
  ),
  λ f. absurd (true≢false f),
)
