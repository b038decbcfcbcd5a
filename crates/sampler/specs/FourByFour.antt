-- The pixels of a picture by index, and the sums over a row of four of them. Assumes nothing.
use Rattle.std.specs.Prelude.{ℕ, ◌+◌, ◌*◌, List, Float}
use Rattle.std.specs.Int.Signed.{mag}
use Rattle.exact.specs.Single.{◌⊗◌}
use Rattle.picture.specs.Pixel.{widened, pixel_at}
use Rattle.taps.specs.Taps.{Plane}
use Rattle.taps.specs.Weighted.{added, weight_at}
use Rattle.taps.specs.declared.weighted.Sums.{Sums}

-- the picture's own pixels, for indexes inside
abbrev pub own : List ℕ → ℕ → ℕ → Plane
own bytes width channels x y = pixel_at bytes width channels (mag x) (mag y)

-- the sums with a row of four taps added, whose samples are numbered from k on
unfoldable pub line_sums : List ℕ → ℕ → ℕ → List Float → Float → Sums → Sums
line_sums bytes channels k wx v s =
    added (widened bytes channels (k + 3 * channels)) (weight_at wx 3 ⊗ v)
    (added (widened bytes channels (k + 2 * channels)) (weight_at wx 2 ⊗ v)
    (added (widened bytes channels (k + channels)) (weight_at wx 1 ⊗ v)
    (added (widened bytes channels k) (weight_at wx 0 ⊗ v) s)))
