-- A value that a format holds rounds to itself, as whatever fraction it is written: a significand of at most `prec`
-- digits is no more than `round_exact` asks, and a sign and a value fix a float. Provides: `round_held`, and of it
-- `round_zero`. Assumes nothing.
use mathlib.Core.Path.{◌≡◌, refl, sym, ap, ◌∙◌}
use mathlib.Core.Bool.{Bool}
use Prim.Native.Nat.{ℕ, ◌*◌, ◌<◌}
use native.Mathlib.Nat.{zero-mul}
use lib.IntN.{ℤ, pos}
use lib.Dec.{T}
use lib.Ieee.{Float, nan, inf, fin, Format, up, down, round, fits}
use lib.Ieee.Exact.{HasValue, round_exact}
use lib.Ieee.Fits.{down_pos, round-fits}
use lib.Ieee.Scale.{round_same}
use Rattle.exact.proofs.Units.{units}
use Rattle.exact.proofs.Value.{unique}

own : (f : Format) (s : Bool) (m : ℕ) (e : ℤ) → T (fits f (fin s m e)) → round f s (m * up e) (down e) ≡ fin s m e
own f s m e t =
    let u = units f s m e t in
    unique f f (round f s (m * up e) (down e)) (fin s m e) s (m * up e) (down e) (down_pos e)
    (round-fits f s (m * up e) (down e)) t
    (round_exact f s (m * up e) (down e) m u.0 (down_pos e) u.1.short u.1.under u.1.value.1)
    (refl, refl)

pub round_held : (f : Format) (x : Float) (s : Bool) (a c : ℕ) → 0 < c → T (fits f x) → HasValue x s a c
    → round f s a c ≡ x
round_held f nan s a c C t v = absurd v
round_held f (inf u) s a c C t v = absurd v
round_held f (fin u m e) s a c C t v =
    sym (round_same f s (m * up e) (down e) a c (down_pos e) C v.1)
    ∙ ap (λ (b : Bool). round f b (m * up e) (down e)) (sym v.0) ∙ own f u m e t

pub round_zero : (f : Format) (s : Bool) (c : ℕ) → 0 < c → round f s 0 c ≡ fin s 0 (pos 0)
round_zero f s c C = round_held f (fin s 0 (pos 0)) s 0 c C zero_fits (refl, zero-mul c)
  where
    zero_fits : T (fits f (fin s 0 (pos 0)))
    zero_fits = unfold fits in tt
