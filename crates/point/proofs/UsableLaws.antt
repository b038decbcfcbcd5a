-- A float whose value is at most 2^30 in magnitude passes the test of a usable coordinate: the float comparison of
-- finite floats is that of their values. Assumes nothing.
use mathlib.Core.Path.{◌≡◌, sym, ap, ◌∙◌, subst}
use mathlib.Core.Bool.{Bool, true, ◌&&◌}
use Prim.Native.Nat.{ℕ, ◌+◌, ◌*◌}
use native.Mathlib.Nat.{le_refl}
use lib.Dec.{T, lit≤}
use lib.Ieee.{Float, nan, inf, fin, up, down, of_bits, le}
use lib.Ieee.Bits.{is_true}
use lib.Ieee.Scale.{finite}
use lib.Ieee.Fits.{down_pos}
use Rattle.exact.specs.Double.{usable_limit}
use Rattle.exact.specs.Fraction.{Fraction, frac, value, ◌≤F◌, abs_f}
use Rattle.exact.specs.Rounds.{Close}
use Rattle.exact.proofs.Scale.{at_le, at_ratio}
use Rattle.exact.proofs.Near.{le_trans}
use Rattle.exact.proofs.Magnitude.{sized_signed, abs_sized}
use Rattle.exact.proofs.Signed.{le_value}
use Rattle.number.specs.Magnitude.{abs, within}
use Rattle.number.proofs.MagnitudeLaws.{abs_finite}
use Rattle.point.specs.Point.{usable}

-- the value of the magnitude is the magnitude of the value
abs_fraction : (x : Float) → T (finite x) → (value (abs x) ≤F abs_f (value x)) × (abs_f (value x) ≤F value (abs x))
unfolding abs
abs_fraction nan t = absurd t
abs_fraction (inf s) t = absurd t
abs_fraction (fin s m e) t =
    let a : ℕ = m * up e in
    let A = at_ratio a 0 (down e) (down_pos e) in
    let B = abs_sized (down e) (down_pos e) s a (sized_signed s a (down e) (down_pos e)) in
    (at_le (down e) (down_pos e) A B (le_refl (a + 0)), at_le (down e) (down_pos e) B A (le_refl (a + 0)))

limit_number : T (finite usable_limit)
unfolding of_bits
limit_number = tt

pub within_limit : (x : Float) → T (finite x) → abs_f (value x) ≤F value usable_limit → within usable_limit x ≡ true
unfolding within
within_limit x t h =
    is_true (le (abs x) usable_limit)
    ((le_value (abs x) usable_limit (subst T (sym (abs_finite x)) t) limit_number).1
    (le_trans (value (abs x)) (abs_f (value x)) (value usable_limit) (abs_fraction x t).0 h))

room : frac 16385 1 ≤F value usable_limit
unfolding of_bits
room = record { le = lit≤ tt }

pub usable_close : {u v : Float} {U W e f : Fraction} → Close u U e (frac 16385 1) → Close v W f (frac 16385 1)
    → usable u v ≡ true
unfolding usable
usable_close {u} {v} c d =
    ap (λ (t : Bool). t && within usable_limit v)
    (within_limit u c.number (le_trans (abs_f (value u)) (frac 16385 1) (value usable_limit) c.small room))
    ∙ within_limit v d.number (le_trans (abs_f (value v)) (frac 16385 1) (value usable_limit) d.small room)
