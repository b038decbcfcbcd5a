-- What callers may use of `narrow`: it sees the value alone, and its result is an f32. Each is a law of `round`.
-- Assumes nothing.
use Rattle.std.proofs.Common.{◌≡◌, ℕ, ◌*◌, ◌<◌, Bool, T, refl, ap, ◌∙◌}
use lib.Ieee.{Float, nan, inf, fin, binary32, up, down, round, fits}
use lib.Ieee.Fits.{down_pos, round-fits, nan-fits, inf-fits}
use lib.Ieee.Exact.{HasValue}
use lib.Ieee.Scale.{round_same}
use Rattle.number.specs.Narrow.{narrow}

-- a value is narrowed by rounding it, however it is written as a fraction
pub narrow_value : (x : Float) (s : Bool) (a c : ℕ) → 0 < c → HasValue x s a c → narrow x ≡ round binary32 s a c
unfolding narrow
narrow_value nan s a c C v = absurd v
narrow_value (inf t) s a c C v = absurd v
narrow_value (fin t m e) s a c C v =
    ap (λ (b : Bool). round binary32 b (m * up e) (down e)) v.0
    ∙ round_same binary32 s (m * up e) (down e) a c (down_pos e) C v.1

pub narrow_nan : narrow nan ≡ nan
unfolding narrow
narrow_nan = refl

pub narrow_infinity : (s : Bool) → narrow (inf s) ≡ inf s
unfolding narrow
narrow_infinity s = refl

-- the result is an f32
pub narrow_fits : (x : Float) → T (fits binary32 (narrow x))
unfolding narrow
narrow_fits nan = nan-fits binary32
narrow_fits (inf s) = inf-fits binary32 s
narrow_fits (fin s m e) = round-fits binary32 s (m * up e) (down e)
