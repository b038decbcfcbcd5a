-- The laws of `abs`: what is known of x is known of it, and its pattern is that of x with the sign's bit taken off. By
-- the cases of a value. Assumes nothing.
use Rattle.std.proofs.Common.{◌≡◌, ℕ, zero, suc, ◌+◌, ◌/◌, ◌%◌, Bool, true, false, cond, T, eqb, leb, sym, refl, ap, ◌∙◌, mod-lt, mod-eq_of_lt}
use native.Mathlib.Nat.{mod-mod_of_dvd, dvd-mul_right}
use lib.Ieee.{Float, nan, inf, fin, Format, le, fits, prec, low, odd, hid, ones, top, of_fields, of_bits}
use lib.Ieee.Scale.{finite}
use borrow.Author.Tests.{lt-leb}
use Rattle.exact.proofs.Formats.{top_pos}
use Rattle.number.specs.Magnitude.{abs}

pub abs_fits : (f : Format) (x : Float) → T (fits f x) → T (fits f (abs x))
unfolding abs fits
abs_fits f nan t = t
abs_fits f (inf s) t = t
abs_fits f (fin s zero e) t = t
abs_fits f (fin s (suc m) e) t = t

pub abs_finite : (x : Float) → finite (abs x) ≡ finite x
unfolding abs
abs_finite nan = refl
abs_finite (inf s) = refl
abs_finite (fin s m e) = refl

-- at most a finite limit in magnitude: finite
pub abs_limited : (x limit : Float) → T (finite limit) → T (le (abs x) limit) → T (finite x)
unfolding abs le
abs_limited nan limit l h = h
abs_limited (inf s) nan l h = l
abs_limited (inf s) (inf t) l h = l
abs_limited (inf s) (fin t n d) l h = h
abs_limited (fin s m e) limit l h = tt

-- ---- the pattern with its sign's bit taken off

odd_unsigned : (d : ℕ) (s : Bool) (q k l : ℕ) → abs (odd d s q k l) ≡ odd d false q k l
unfolding abs odd
odd_unsigned d s zero k l = refl
odd_unsigned d s (suc q) k l = refl

picked_unsigned : (a b s : Bool) (v w : Float) → abs v ≡ w
    → abs (cond a (cond b (inf s) nan) v) ≡ cond a (cond b (inf false) nan) w
unfolding abs
picked_unsigned true true s v w h = refl
picked_unsigned true false s v w h = refl
picked_unsigned false b s v w h = h

fields_unsigned : (f : Format) (s : Bool) (x t : ℕ) → abs (of_fields f s x t) ≡ of_fields f false x t
unfolding of_fields
fields_unsigned f s zero t = odd_unsigned (prec f) s t 0 (low f)
fields_unsigned f s (suc x) t =
    picked_unsigned (eqb (suc x) (ones f)) (eqb t 0) s (odd (prec f) s (hid f + t) x (low f))
    (odd (prec f) false (hid f + t) x (low f)) (odd_unsigned (prec f) s (hid f + t) x (low f))

pub abs_bits : (f : Format) (n : ℕ) → abs (of_bits f n) ≡ of_bits f (n % top f)
unfolding of_bits
abs_bits f n =
    fields_unsigned f (leb (top f) n) (n % top f / hid f) (n % hid f)
    ∙ ap (λ (b : Bool). of_fields f b (n % top f / hid f) (n % hid f))
    (sym (lt-leb (top f) (n % top f) (mod-lt n (top_pos f))))
    ∙ (λ i. of_fields f (leb (top f) (n % top f)) (sym (mod-eq_of_lt (mod-lt n (top_pos f))) i / hid f)
    (sym (mod-mod_of_dvd (hid f) n (dvd-mul_right (hid f) (suc (ones f)))) i))
