-- A chain of operations, from record to record: each result is close to its own exact result, which is close to the one
-- that was meant, so the errors add up and no float is spelled out. Provides, of `Close r X e b`: `close_own` (where a
-- chain starts), `close_more` (weaker), `close_along` (equal fractions), `close_move` (from the exact result to the one
-- that was meant); `abs_add`, `abs_sub`, `abs_div`; `add_step`, `sub_step`, `mul_step`, `div_step`. Assumes nothing.
use mathlib.Core.Path.{refl}
use mathlib.Core.List.{[], ◌∷◌}
use Prim.Native.Nat.{ℕ, ◌+◌, ◌≤◌}
use native.Mathlib.Omega.{arith}
use lib.Dec.{T}
use lib.Ieee.{Float, Format, emax, low, add, sub, mul, div}
use lib.Ieee.Scale.{finite}
use Rattle.exact.specs.Fraction.{Fraction, frac, value, ◌≤F◌, ◌<F◌, ◌≈◌, ◌+F◌, ◌-F◌, ◌*F◌, ◌/F◌, abs_f, Within}
use Rattle.exact.specs.Rounds.{Close, power_f, half_ulp}
use Rattle.exact.proofs.Scale.{at_add, at_sub, common}
use Rattle.exact.proofs.Near.{
  le_refl,
  le_trans,
  within_at,
  at_within,
  within_same,
  within_more,
  within_trans,
  within_add,
  within_sub,
}
use Rattle.exact.proofs.Products.{eq_refl, ◌⨟◌, back, at_zero, mul_zero, mul_comm, lt_le_trans}
use Rattle.exact.proofs.NearProducts.{abs_at, at_abs_le, abs_open, abs_mul, within_like, within_mul}
use Rattle.exact.proofs.Quotients.{div_mul_pos, within_cancel, within_div}
use Rattle.exact.proofs.Operations.{add_close, sub_close, mul_close, div_close}

-- ---- a float is close to its own value
pub close_own : (x : Float) (b : Fraction) → T (finite x) → abs_f (value x) ≤F b → Close x (value x) (frac 0 1) b
close_own x b t h = record {
  number = t;
  near = within_same (value x) (value x) (frac 0 1) (record { eq = refl })
      (le_refl (frac 0 1) (frac 0 1));
  small = h;
}

-- ---- weaker: a larger error, a larger bound
pub close_more : {r : Float} {X e e' b b' : Fraction} → e ≤F e' → b ≤F b' → Close r X e b → Close r X e' b'
close_more {r} {X} {e} {e'} {b} {b'} h k c = record {
  number = c.number;
  near = within_more (value r) X e e' h c.near;
  small = le_trans (abs_f (value r)) b b' c.small k;
}

-- ---- equal fractions
pub close_along : {r : Float} {X Y e b : Fraction} → X ≈ Y → Close r X e b → Close r Y e b
close_along {r} {X} {Y} {e} q c =
    record { number = c.number; near = within_like (eq_refl (value r)) q (eq_refl e) c.near; small = c.small }

-- ---- from record to record
-- r is the rounding of Z, and Z is near the X that was meant
pub close_move : {r : Float} {Z X e g b : Fraction} → Close r Z e b → Within Z X g → Close r X (e +F g) b
close_move {r} {Z} {X} {e} {g} c h =
    record { number = c.number; near = within_trans (value r) Z X e g c.near h; small = c.small }

module _ (x y b d : Fraction) (h : abs_f x ≤F b) (k : abs_f y ≤F d) where
  pub abs_add : abs_f (x +F y) ≤F b +F d
  abs_add =
      common (x ∷ y ∷ b ∷ d ∷ [])
      (λ D D0 ((_, _, X), ((_, _, Y), ((_, _, B), ((_, _, E), _)))). let v = abs_at D D0 X B h in
      let w = abs_at D D0 Y E k in at_abs_le D D0 (at_add X Y) (at_add B E) (omega arith) (omega arith))

  pub abs_sub : abs_f (x -F y) ≤F b +F d
  abs_sub =
      common (x ∷ y ∷ b ∷ d ∷ [])
      (λ D D0 ((_, _, X), ((_, _, Y), ((_, _, B), ((_, _, E), _)))). let v = abs_at D D0 X B h in
      let w = abs_at D D0 Y E k in at_abs_le D D0 (at_sub X Y) (at_add B E) (omega arith) (omega arith))

-- |x| is the distance from 0
module _ (x b : Fraction) where
  abs_within : abs_f x ≤F b → Within x (frac 0 1) b
  abs_within h = common (x ∷ b ∷ []) (λ D D0 ((_, _, X), ((_, _, B), _)). let k = abs_at D D0 X B h in
      at_within D D0 X (at_zero D) B (omega arith) (omega arith))

  within_abs : Within x (frac 0 1) b → abs_f x ≤F b
  within_abs h = common (x ∷ b ∷ []) (λ D D0 ((_, _, X), ((_, _, B), _)). let k = within_at D D0 X (at_zero D) B h in
      at_abs_le D D0 X B (omega arith) (omega arith))

-- a divisor of at least l
pub abs_div : (x y b l : Fraction) → frac 0 1 <F l → l ≤F y → abs_f x ≤F b → abs_f (x /F y) ≤F b /F l
abs_div x y b l l0 ly h =
    within_abs (x /F y) (b /F l) (within_cancel (x /F y) (frac 0 1) b l y l0 ly
    (within_like (back (div_mul_pos x y (lt_le_trans l0 ly))) (back (mul_zero y) ⨟ mul_comm y (frac 0 1)) (eq_refl b)
    (abs_within x b h)))

module _ (f : Format) {x y : Float} {X Y e g b d : Fraction} (c : Close x X e b) (c' : Close y Y g d) (K : ℕ)
    (top : K ≤ low f + emax f) where
  pub add_step : b +F d ≤F power_f f K → Close (add f x y) (X +F Y) (half_ulp f K +F (e +F g)) (power_f f K)
  add_step h =
      close_move
      (add_close f x y c.number c'.number K top
      (le_trans (abs_f (value x +F value y)) (b +F d) (power_f f K)
      (abs_add (value x) (value y) b d c.small c'.small) h))
      (within_add (value x) X (value y) Y e g c.near c'.near)

  pub sub_step : b +F d ≤F power_f f K → Close (sub f x y) (X -F Y) (half_ulp f K +F (e +F g)) (power_f f K)
  sub_step h =
      close_move
      (sub_close f x y c.number c'.number K top
      (le_trans (abs_f (value x -F value y)) (b +F d) (power_f f K)
      (abs_sub (value x) (value y) b d c.small c'.small) h))
      (within_sub (value x) X (value y) Y e g c.near c'.near)

  -- a bounds the exact first factor
  pub mul_step : b *F d ≤F power_f f K → (a : Fraction) → abs_f X ≤F a
      → Close (mul f x y) (X *F Y) (half_ulp f K +F (e *F d +F a *F g)) (power_f f K)
  mul_step h a k =
      close_move
      (mul_close f x y c.number c'.number K top
      (le_trans (abs_f (value x *F value y)) (b *F d) (power_f f K)
      (abs_mul (value x) (value y) b d c.small c'.small) h))
      (within_mul (value x) X (value y) Y e g a d k c'.small c.near c'.near)

  -- both divisors are above 0, the rounded one at least l; q bounds the exact quotient
  pub div_step : (l q : Fraction) → frac 0 1 <F l → l ≤F value y → frac 0 1 <F Y → b /F l ≤F power_f f K
      → abs_f (X /F Y) ≤F q
      → Close (div f x y) (X /F Y) (half_ulp f K +F (e +F q *F g) /F l) (power_f f K)
  div_step l q l0 ly Y0 h k =
      close_move
      (div_close f x y c.number c'.number K top
      (lt_le_trans (lt_le_trans l0 ly)
      (abs_open (value y) (abs_f (value y)) (le_refl (abs_f (value y)) (value y))).0)
      (le_trans (abs_f (value x /F value y)) (b /F l) (power_f f K) (abs_div (value x) (value y) b l l0 ly c.small) h))
      (within_div (value x) X (value y) Y e g l q l0 ly Y0 k c.near c'.near)
