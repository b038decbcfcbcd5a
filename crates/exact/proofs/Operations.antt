-- Each operation on finite floats is the exact fractions' own operation, rounded once: the library hands `round` two
-- naturals and a sign, which are the exact result at the scale of both denominators. So a chain of operations goes from
-- record to record and no float is spelled out. Provides: `add_rounds`, `sub_rounds`, `mul_rounds`, `div_rounds` (a
-- divisor of either sign), `int_value`; `add_close`, `sub_close`, `mul_close`, `div_close` (finite, within half an ulp,
-- and of bounded size, from a power of two that bounds the exact result). The comparisons are in Signed. Assumes
-- nothing.
use mathlib.Core.Path.{◌≡◌, refl, ap, ◌∙◌, subst}
use mathlib.Core.Bool.{Bool, true, false, not, cond}
use Prim.Native.Nat.{ℕ, suc, ◌+◌, ◌-◌, ◌*◌, ◌^◌, ◌≤◌, ◌<◌}
use native.Mathlib.Nat.{mul_comm, mul-pos, lt_irrefl, zero-lt-suc, zero-mul, sub-zero}
use native.Mathlib.Omega.{arith}
use lib.IntN.{ℤ, pos, negsuc}
use lib.Dec.{T, ltb, eqb, leb→le, ltb→lt, nltb→le, eqb→eq}
use lib.Ieee.{
  Float,
  nan,
  inf,
  fin,
  Format,
  prec,
  emax,
  low,
  up,
  down,
  unlike,
  round,
  sum,
  neg,
  add,
  sub,
  mul,
  div,
  of_int,
  in_float,
}
use lib.Ieee.Back.{round_whole}
use lib.Ieee.Fits.{down_pos}
use lib.Ieee.Scale.{finite}
use Rattle.exact.specs.Fraction.{
  Fraction,
  frac,
  whole,
  value,
  ◌≤F◌,
  ◌<F◌,
  ◌≈◌,
  neg_f,
  ◌+F◌,
  ◌-F◌,
  ◌*F◌,
  ◌/F◌,
  abs_f,
}
use Rattle.exact.specs.Rounds.{Rounds, Close, power_f, half_ulp}
use Rattle.exact.proofs.Scale.{At, lt_at, at_eq, at_add}
use Rattle.exact.proofs.Near.{add_same}
use Rattle.exact.proofs.Products.{at_zero}
use Rattle.exact.proofs.Signed.{has_value, has_finite, finite_both, neg_value, neg_finite}
use Rattle.exact.proofs.Magnitude.{Sized, sized_signed, sized_more, sized_mul, abs_sized}
use Rattle.exact.proofs.Quotients.{at_div, at_div_neg}
use Rattle.exact.proofs.Rounds.{rounds_along, rounds_within}

-- ---- what `round` is handed, against the exact result at its scale
of_round : (f : Format) (s : Bool) (a c : ℕ) → 0 < c → {Z : Fraction} (p n : ℕ) → At c Z p n
    → cond s 0 a + n ≡ p + cond s a 0 → Rounds f (round f s a c) Z
of_round f s a c C p n Z e =
    record { sign = s; num = a; den = c; den_pos = C; is = refl; exact = at_eq c C (sized_signed s a c C) Z e }

of_sized : (f : Format) (s : Bool) (a c : ℕ) → 0 < c → {Z : Fraction} → Sized c Z s a → Rounds f (round f s a c) Z
of_sized f s a c C Z = of_round f s a c C (cond s 0 a) (cond s a 0) Z refl

-- ---- the sum
sum_rounds : (f : Format) (s : Bool) (a : ℕ) (t : Bool) (b c : ℕ) → 0 < c → {x y : Fraction} → Sized c x s a
    → Sized c y t b → Rounds f (sum f s a t b c) (x +F y)
unfolding sum
sum_rounds f true a true b c C X Y = of_round f true (a + b) c C (0 + 0) (a + b) (at_add X Y) (omega arith)
sum_rounds f false a false b c C X Y = of_round f false (a + b) c C (a + b) (0 + 0) (at_add X Y) (omega arith)
sum_rounds f true a false b c C {x} {y} X Y = go (ltb a b) (ltb→lt a b) (nltb→le a b)
  where
    turn : (v : Bool) → (T v → b < a) → (T (not v) → a ≤ b) → b ≤ a → Rounds f (round f v (a - b) c) (x +F y)
    turn true h k l = of_round f true (a - b) c C (0 + b) (a + 0) (at_add X Y) (omega arith)
    turn false h k l = let g = k tt in of_round f false (a - b) c C (0 + b) (a + 0) (at_add X Y) (omega arith)

    go : (u : Bool) → (T u → a < b) → (T (not u) → b ≤ a)
        → Rounds f (cond u (round f false (b - a) c) (round f (ltb b a) (a - b) c)) (x +F y)
    go true h k = let l = h tt in of_round f false (b - a) c C (0 + b) (a + 0) (at_add X Y) (omega arith)
    go false h k = turn (ltb b a) (ltb→lt b a) (nltb→le b a) (k tt)
sum_rounds f false a true b c C {x} {y} X Y = go (ltb a b) (ltb→lt a b) (nltb→le a b)
  where
    go : (u : Bool) → (T u → a < b) → (T (not u) → b ≤ a)
        → Rounds f (cond u (round f true (b - a) c) (round f false (a - b) c)) (x +F y)
    go true h k = let l = h tt in of_round f true (b - a) c C (a + 0) (0 + b) (at_add X Y) (omega arith)
    go false h k = let l = k tt in of_round f false (a - b) c C (a + 0) (0 + b) (at_add X Y) (omega arith)

own : (s : Bool) (m : ℕ) (e : ℤ) → Sized (down e) (value (fin s m e)) s (m * up e)
own s m e = sized_signed s (m * up e) (down e) (down_pos e)

-- both at the scale of both denominators
left : (s : Bool) (m : ℕ) (e d : ℤ) → Sized (down e * down d) (value (fin s m e)) s (m * up e * down d)
left s m e d = sized_more s (down e) (m * up e) (down d) (own s m e)

right : (t : Bool) (n : ℕ) (d e : ℤ) → Sized (down e * down d) (value (fin t n d)) t (n * up d * down e)
right t n d e = subst (λ (z : ℕ). Sized z (value (fin t n d)) t (n * up d * down e)) (mul_comm (down d) (down e))
    (left t n d e)

pub add_rounds : (f : Format) (x y : Float) → T (finite x) → T (finite y) → Rounds f (add f x y) (value x +F value y)
unfolding add
add_rounds f = finite_both (λ x y. Rounds f (add f x y) (value x +F value y))
    (λ s m e t n d. sum_rounds f s (m * up e * down d) t (n * up d * down e) (down e * down d)
    (mul-pos (down_pos e) (down_pos d)) (left s m e d) (right t n d e))

pub sub_rounds : (f : Format) (x y : Float) → T (finite x) → T (finite y) → Rounds f (sub f x y) (value x -F value y)
unfolding sub ◌-F◌
sub_rounds f x y p q =
    rounds_along (add_same (value x) (value x) (value (neg y)) (neg_f (value y)) (record { eq = refl }) (neg_value y))
    (add_rounds f x (neg y) p (neg_finite y q))

-- ---- the product
pub mul_rounds : (f : Format) (x y : Float) → T (finite x) → T (finite y) → Rounds f (mul f x y) (value x *F value y)
unfolding mul
mul_rounds f = finite_both (λ x y. Rounds f (mul f x y) (value x *F value y))
    (λ s m e t n d. of_sized f (unlike s t) (m * up e * (n * up d)) (down e * down d)
    (mul-pos (down_pos e) (down_pos d)) (sized_mul (down e) (down d) s (m * up e) t (n * up d) (own s m e) (own t n d)))

-- ---- the quotient
quotient_rounds : (f : Format) (s : Bool) (a : ℕ) (t : Bool) (b D : ℕ) → 0 < b → {x y : Fraction} → Sized D x s a
    → Sized D y t b → Rounds f (round f (unlike s t) a b) (x /F y)
quotient_rounds f s a t b D B {x} {y} X Y = go s t X Y
  where
    plain : (p n : ℕ) → At (b - 0) (x /F y) p n → At b (x /F y) p n
    plain p n Z = subst (λ (z : ℕ). At z (x /F y) p n) (sub-zero b) Z

    go : (s t : Bool) → Sized D x s a → Sized D y t b → Rounds f (round f (unlike s t) a b) (x /F y)
    go true true X Y = of_sized f false a b B (plain a 0 (at_div_neg X Y B))
    go false true X Y = of_sized f true a b B (plain 0 a (at_div_neg X Y B))
    go true false X Y = of_sized f true a b B (plain 0 a (at_div X Y B))
    go false false X Y = of_sized f false a b B (plain a 0 (at_div X Y B))

-- a divisor that is not 0 has digits
digits : (t : Bool) (n : ℕ) (d : ℤ) → frac 0 1 <F abs_f (value (fin t n d)) → 0 < n * up d
digits t n d h =
    go (n * up d)
    (lt_at (down d) (down_pos d) (at_zero (down d)) (abs_sized (down d) (down_pos d) t (n * up d) (own t n d)) h)
  where
    go : (b : ℕ) → 0 + 0 < b + 0 → 0 < b
    go b h = omega arith

pub div_rounds : (f : Format) (x y : Float) → T (finite x) → T (finite y) → frac 0 1 <F abs_f (value y)
    → Rounds f (div f x y) (value x /F value y)
unfolding div
div_rounds f = finite_both (λ x y. frac 0 1 <F abs_f (value y) → Rounds f (div f x y) (value x /F value y))
    (λ s m e t n d h. go s m e t n d (digits t n d h) (eqb n 0) (eqb→eq n 0))
  where
    go : (s : Bool) (m : ℕ) (e : ℤ) (t : Bool) (n : ℕ) (d : ℤ) → 0 < n * up d → (z : Bool) → (T z → n ≡ 0)
        → Rounds f (cond z (cond (eqb m 0) nan (inf (unlike s t)))
        (round f (unlike s t) (m * up e * down d) (n * up d * down e))) (value (fin s m e) /F value (fin t n d))
    go s m e t n d B true k =
        absurd (lt_irrefl 0 (subst (λ (z : ℕ). 0 < z) (ap (λ (z : ℕ). z * up d) (k tt) ∙ zero-mul (up d)) B))
    go s m e t n d B false k =
        quotient_rounds f s (m * up e * down d) t (n * up d * down e) (down e * down d) (mul-pos B (down_pos e))
        (left s m e d) (right t n d e)

-- ---- an integer as a float, exact up to 2 ^ prec
pub int_value : (f : Format) (z : ℤ) → T (in_float f z) → T (finite (of_int f z)) × (value (of_int f z) ≈ whole z)
unfolding of_int in_float
int_value f (pos n) t = let v = round_whole f false n (leb→le n (2 ^ prec f) t) in
    (has_finite (round f false n 1) false n 1 v, has_value (round f false n 1) false n 1 (zero-lt-suc 0) v)
int_value f (negsuc n) t =
    let v = round_whole f true (suc n) (ltb→lt n (2 ^ prec f) t) in (
      has_finite (round f true (suc n) 1) true (suc n) 1 v,
      has_value (round f true (suc n) 1) true (suc n) 1 (zero-lt-suc 0) v,
    )

-- ---- an operation whose exact result is at most 2 ^ K units in size
module _ (f : Format) (x y : Float) (p : T (finite x)) (q : T (finite y)) (K : ℕ) (top : K ≤ low f + emax f) where
  pub add_close : abs_f (value x +F value y) ≤F power_f f K
      → Close (add f x y) (value x +F value y) (half_ulp f K) (power_f f K)
  add_close h = rounds_within (add_rounds f x y p q) K top h

  pub sub_close : abs_f (value x -F value y) ≤F power_f f K
      → Close (sub f x y) (value x -F value y) (half_ulp f K) (power_f f K)
  sub_close h = rounds_within (sub_rounds f x y p q) K top h

  pub mul_close : abs_f (value x *F value y) ≤F power_f f K
      → Close (mul f x y) (value x *F value y) (half_ulp f K) (power_f f K)
  mul_close h = rounds_within (mul_rounds f x y p q) K top h

  pub div_close : frac 0 1 <F abs_f (value y) → abs_f (value x /F value y) ≤F power_f f K
      → Close (div f x y) (value x /F value y) (half_ulp f K) (power_f f K)
  div_close z h = rounds_within (div_rounds f x y p q z) K top h
