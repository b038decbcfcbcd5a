-- Every finite value of a format is a whole number of the format's smallest value, its unit: at most `prec` digits with
-- zeros after them, below the overflow. Read off `fits`, by cases on the exponent's sign. Provides: `Units` (m digits
-- and k zeros after them, as many units), `units` (a finite float's), `count` (its number of units by a division).
-- Assumes nothing.
use mathlib.Core.Path.{◌≡◌, refl, sym, ap, ◌∙◌, subst}
use Prim.Native.Nat.{ℕ, zero, suc, ◌+◌, ◌-◌, ◌*◌, ◌/◌, ◌%◌, ◌^◌, ◌≤◌, ◌<◌}
use native.Mathlib.Nat.{
  zero-mul,
  mul-one,
  mul_assoc,
  mul_comm,
  mul_right_comm,
  mul-div_cancel,
  mul-lt-mul_of_pos_right,
  lt_of_mul-lt-mul_right,
}
use mathlib.Core.Bool.{Bool, ◌&&◌}
use lib.IntN.{ℤ, pos, negsuc}
use lib.Dec.{T, leb, ltb, eqb, leb→le, ltb→lt}
use lib.Pow.{pow-add, pow_pos}
use lib.Ieee.{Float, fin, Format, prec, emax, low, up, down, fits}
use lib.Ieee.Digits.{back}
use lib.Ieee.Exact.{HasValue}
use lib.Ieee.Fits.{down_pos, and_l, and_r}
use lib.Ieee.Scale.{overflow}
use Rattle.exact.proofs.Naturals.{pow_le_back}

pub record Units (f : Format) (x : Float) (s : Bool) (m k : ℕ) : Type 0 where
  pub short : m < 2 ^ prec f
  pub under : m * 2 ^ k < overflow f
  pub value : HasValue x s (m * 2 ^ k) (2 ^ low f)

-- ---- in units of 2 ^ -l, m * 2 ^ e is m with zeros after it
zeros : (l : ℕ) (e : ℤ) → down e ≤ 2 ^ l → (k : ℕ) × ((m : ℕ) → m * up e * 2 ^ l ≡ m * 2 ^ k * down e)
zeros l (pos a) h = (
  a + l,
  λ m. mul_assoc m (2 ^ a) (2 ^ l) ∙ ap (λ (x : ℕ). m * x) (sym (pow-add 2 a l))
      ∙ sym (mul-one (m * 2 ^ (a + l))),
)
zeros l (negsuc a) h = (
  l - suc a,
  λ m.
      ap (λ (x : ℕ). x * 2 ^ l) (mul-one m)
      ∙ ap (λ (x : ℕ). m * x) (ap (λ (x : ℕ). 2 ^ x) (sym (back l (suc a) (pow_le_back (suc a) l h)))
      ∙ pow-add 2 (l - suc a) (suc a))
      ∙ sym (mul_assoc m (2 ^ (l - suc a)) (2 ^ suc a)),
)

of_parts : (f : Format) (s : Bool) (m : ℕ) (e : ℤ) → m < 2 ^ prec f → down e ≤ 2 ^ low f
    → m * up e < 2 ^ suc (emax f) * down e → (k : ℕ) × Units f (fin s m e) s m k
of_parts f s m e short least most =
    let z = zeros (low f) e least in
    let over : m * up e * 2 ^ low f < 2 ^ suc (emax f) * down e * 2 ^ low f =
    mul-lt-mul_of_pos_right most (pow_pos (low f)) in
    let room : 2 ^ suc (emax f) * down e * 2 ^ low f ≡ overflow f * down e =
    mul_right_comm (2 ^ suc (emax f)) (down e) (2 ^ low f)
    ∙ ap (λ (x : ℕ). x * down e) (mul_comm (2 ^ suc (emax f)) (2 ^ low f) ∙ sym (pow-add 2 (low f) (suc (emax f)))) in (
      z.0,
      record {
        short = short;
        under = lt_of_mul-lt-mul_right (down e)
            (subst (λ (x : ℕ). x < overflow f * down e) (z.1 m)
            (subst (λ (x : ℕ). m * up e * 2 ^ low f < x) room over));
        value = (refl, z.1 m);
      },
    )

none : (f : Format) (s : Bool) (e : ℤ) → Units f (fin s zero e) s 0 0
none f s e = record {
  short = pow_pos (prec f);
  under = pow_pos (low f + suc (emax f));
  value = (refl, ap (λ (z : ℕ). z * 2 ^ low f) (zero-mul (up e)) ∙ zero-mul (2 ^ low f) ∙ sym (zero-mul (down e)));
}

-- ---- the laws
pub units : (f : Format) (s : Bool) (m : ℕ) (e : ℤ) → T (fits f (fin s m e)) → (k : ℕ) × Units f (fin s m e) s m k
unfolding fits
units f s zero e t = (0, none f s e)
units f s (suc m) e t =
    let a : Bool = eqb (suc m % 2) 1 in
    let b : Bool = ltb (suc m) (2 ^ prec f) in
    let c : Bool = leb (down e) (2 ^ low f) in
    let d : Bool = ltb (suc m * up e) (2 ^ suc (emax f) * down e) in
    of_parts f s (suc m) e
    (ltb→lt (suc m) (2 ^ prec f) (and_r a b (and_l (a && b) c (and_l (a && b && c) d t))))
    (leb→le (down e) (2 ^ low f) (and_r (a && b) c (and_l (a && b && c) d t)))
    (ltb→lt (suc m * up e) (2 ^ suc (emax f) * down e) (and_r (a && b && c) d t))

pub count : (s t : Bool) (m : ℕ) (e : ℤ) (n c : ℕ) → HasValue (fin s m e) t n c → m * up e * c / down e ≡ n
count s t m e n c v = ap (λ (z : ℕ). z / down e) v.1 ∙ mul-div_cancel n (down_pos e)
