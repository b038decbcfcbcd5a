-- The cubic weights handed out: 0 with their bits in the bytes lent, or 1 outside the domain, where nothing is written.
-- Assumes nothing.
use Rattle.std.specs.Prelude.{ℕ, Bool, not, cond, ◌||◌, List, eqb, Float}
use Rattle.std.specs.Float.{binary32}
use Rattle.std.specs.Float.Ieee.{of_bits, le}
use Rattle.exact.specs.Vector.{at}
use Rattle.endian.specs.Bytes.{store_f32}
use Rattle.cubic.specs.Cubic.{zero, one, catrom, spline}
use Rattle.taps.specs.Interpolation.{catrom_code, spline_code}

abbrev pub store_weights : List ℕ → List Float → List ℕ
store_weights out w = store_f32 (store_f32 (store_f32 (store_f32 out 0 (at w 0)) 4 (at w 1)) 8 (at w 2)) 12 (at w 3)

-- a fraction that is not from 0 to 1
unfoldable pub no_fraction : Float → Bool
no_fraction t = not (le zero t) || not (le t one)

-- by the code of `Catrom` or of `Spline`
unfoldable pub probe_cubic : ℕ → ℕ → List ℕ → ℕ × List ℕ
probe_cubic code t out =
    cond (no_fraction (of_bits binary32 t)) (1, out)
    (cond (eqb code catrom_code) (0, store_weights out (catrom (of_bits binary32 t)))
    (cond (eqb code spline_code) (0, store_weights out (spline (of_bits binary32 t))) (1, out)))
