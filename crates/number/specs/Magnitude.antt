-- Magnitudes as Rust's f64 methods have them: `abs`, `min`, `max`, and the rule by which elimination takes its pivot.
-- Both formats share one type of values, so each is said once. Specification 4. Assumes nothing.
use Rattle.std.specs.Prelude.{Bool, false, cond, ◌||◌, is_nan, Float}
use Rattle.std.specs.Float.{nan, inf, fin}
use Rattle.std.specs.Float.Ieee.{lt, le}

-- the sign cleared: of -0 it is +0, and of a NaN a NaN
unfoldable pub abs : Float → Float
abs nan = nan
abs (inf s) = inf false
abs (fin s m e) = fin false m e

-- Rust's `min`: a NaN is passed over. Of two equal values, as zeros of unlike signs are, it is the first.
unfoldable pub fmin : Float → Float → Float
fmin x y = cond (is_nan x) y (cond (lt y x) y x)

-- Rust's `max`, in the same way
unfoldable pub fmax : Float → Float → Float
fmax x y = cond (is_nan x) y (cond (lt x y) y x)

-- Whether `next` takes the place of `best` where the largest magnitude is looked for, the last among equals, a NaN
-- above all: Rust's `max_by(|i, j| a[i].abs().total_cmp(&a[j].abs()))`, with one NaN and no payloads.
unfoldable pub reaching : Float → Float → Bool
reaching best next = is_nan next || le (abs best) (abs next)

-- x is at most `limit` in magnitude. A NaN is not, and under a finite limit neither is an infinity.
unfoldable pub within : Float → Float → Bool
within limit x = le (abs x) limit
