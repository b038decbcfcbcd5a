-- The refusal table (specification 2): each test by itself, then the table. A test stands on its own and may be asked
-- out of turn; the table's order says which number a caller gets. Assumes nothing.
use Rattle.std.specs.Prelude.{ℕ, ◌+◌, ◌*◌, Bool, not, ◌||◌, cond, List, [], ◌∷◌, eqb, ltb, length, take}
use Rattle.std.specs.Float.Ieee.{lt}
use Rattle.exact.specs.Table.{first_of}
unfoldable pub use Rattle.picture.specs.Size.{bad_side, bad_channels, bad_size, bad_stock}
unfoldable pub use Rattle.sample_limit.specs.Samples.{large}
use Rattle.arguments.specs.Method.{present}
use Rattle.arguments.specs.Refusal as Arguments
use Rattle.fit.specs.Build.{build}
use Rattle.mappings.specs.Mapping.{Fitted}
use Rattle.policies.specs.Named.{transparent_code, random_code}
use Rattle.picture.specs.Colour.{one}
use Rattle.picture.specs.declared.colour.Rgba.{Rgba}
use Rattle.taps.specs.Interpolation.{background_code}
use Rattle.window.specs.Window.{window, refusal_of, width_of, height_of}
use Rattle.window.specs.declared.view.View.{View}
use Rattle.window.specs.Placed.{Placed}
use Rattle.distort.specs.Job.{Image, Given, Call, colour_of}
use Rattle.window.specs.View.{view_by}

-- ---- the fit, the window and the channels of the output
unfoldable pub fit_of : Image → Given → Fitted
fit_of p g = build g.method g.arguments p.width p.height

abbrev pub view_of : Given → View
view_of g = view_by g.bestfit g.viewport
    (record { width = g.view_width; height = g.view_height; x = g.view_x; y = g.view_y })

unfoldable pub window_of : Image → Given → Placed
window_of p g = window (fit_of p g).mapping.kind (fit_of p g).mapping.coef p.width p.height (view_of g)

-- four if the picture has four, the policy is `Transparent`, or the background's alpha is below 1; otherwise the
-- picture's own
unfoldable pub widest : ℕ → ℕ → Rgba → ℕ
widest channels policy background =
    cond (eqb channels 4 || (eqb policy transparent_code || lt background.a one)) 4 channels

abbrev pub out_channels : Image → Given → ℕ
out_channels p g = widest p.channels g.policy (colour_of g.background)

-- ---- 1, size, and 2, stock: `bad_size` and `bad_stock` of picture/specs/Size

-- ---- 3, code: fourteen policies and nine interpolations, counted from 0
unfoldable pub bad_code : ℕ → ℕ → ℕ → Bool
bad_code method policy interpolation = not (present method)
    || (ltb random_code policy || ltb background_code interpolation)

-- ---- 5, number
unfoldable pub bad_number : Image → List ℕ → List ℕ → List ℕ → Bool
bad_number p arguments background matte =
    Arguments.bad_argument arguments
    || (large p.bytes (p.width * p.height * p.channels) || (large background 4 || large matte 4))

-- ---- 8, degenerate: the fit, once the arguments are fit for it, gives no mapping
unfoldable pub degenerate : Image → Given → Bool
degenerate p g = eqb (fit_of p g).refusal 8

-- ---- 9, window
unfoldable pub bad_window : Image → Given → Bool
bad_window p g = eqb (refusal_of (window_of p g)) 9

-- ---- 10, rows: whole numbers, so that the sum does not wrap
unfoldable pub bad_rows : Call → Bool
bad_rows c = ltb (height_of (window_of c.image c.given)) (c.first + c.rows)

-- ---- 11, tray: the band's length is not rows × output width × output channels samples of four bytes
unfoldable pub bad_tray : Call → Bool
bad_tray c = not (eqb (length c.band)
    (c.rows * width_of (window_of c.image c.given) * out_channels c.image c.given * 4))

-- ---- the table
abbrev pub of_job : Image → Given → List (ℕ × Bool) → List (ℕ × Bool)
of_job p g more =
    (1, bad_size p.width p.height p.channels)
    ∷ ((2, bad_stock p.bytes p.width p.height p.channels)
    ∷ ((3, bad_code g.method g.policy g.interpolation)
    ∷ ((4, Arguments.bad_count g.method g.arguments)
    ∷ ((5, bad_number p g.arguments g.background g.matte)
    ∷ ((6, Arguments.bad_order g.method g.arguments)
    ∷ ((7, Arguments.few_pairs g.method g.arguments)
    ∷ ((8, degenerate p g)
    ∷ ((9, bad_window p g)
    ∷ more))))))))

abbrev pub refusals : Call → List (ℕ × Bool)
refusals c = of_job c.image c.given ((10, bad_rows c) ∷ ((11, bad_tray c) ∷ []))

-- the first number that applies, 0 where none does
unfoldable pub refusal : Call → ℕ
refusal c = first_of (refusals c)

-- the same of rows 1 to 9, which ask nothing of rows and band
unfoldable pub job_refusal : Image → Given → ℕ
job_refusal p g = first_of (of_job p g [])

-- and of rows 1 to 7, which ask for no fit and no window
unfoldable pub unfit : Image → Given → ℕ
unfit p g = first_of (take 7 (of_job p g []))
