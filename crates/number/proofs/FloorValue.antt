-- The floor as a float has the sign of x and the value of the floor as a whole number: a zero's floor is 0, and where x
-- is negative and not zero its floor is below 0. Assumes nothing.
use Rattle.std.proofs.Common.{◌≡◌, ℕ, zero, suc, ◌+◌, ◌-◌, ◌*◌, ◌/◌, ◌<◌, Bool, true, false, not, T, ℤ, pos, neg_ℤ, nat_abs, sym, refl, ap, ◌∙◌, subst, le_trans, lt_irrefl, zero-lt-suc, mul-pos, le-div_iff_mul-le, zero-mul, arith, lit≤, eqb→eq}
use native.Mathlib.Nat.{div-eq_of_lt}
use lib.Ieee.{Float, fin, binary64, up, down, of_int, in_float}
use lib.Ieee.Fits.{up_pos, down_pos}
use lib.Ieee.Exact.{HasValue}
use Rattle.exact.proofs.Integer.{negative, counted, of_int_value}
use Rattle.number.specs.Floor.{ceil_div, floorℤ, in_domain, is_zero, floor_f64}
use Rattle.number.proofs.FloorLaws.{floor_size, floor_zero, floor_float}

pub floor_counted : (x : Float) → T (in_domain x) → T (in_float binary64 (floorℤ x))
floor_counted x d = counted binary64 (floorℤ x) (le_trans (floor_size x d) (lit≤ tt))

-- ---- a zero's floor is 0
no_digits : (m : ℕ) (e : ℤ) → m ≡ 0 → m * up e ≡ 0
no_digits m e z = ap (λ (n : ℕ). n * up e) z ∙ zero-mul (up e)

small_quotient : (a c : ℕ) → a ≡ 0 → 0 < c → (a / c ≡ 0) × (ceil_div a c ≡ 0)
small_quotient a c z p =
    let h : a < c = omega arith in
    let g : a + (c - 1) < c = omega arith in
    (div-eq_of_lt h, div-eq_of_lt g)

pub floor_none : (s : Bool) (m : ℕ) (e : ℤ) → T (is_zero (fin s m e)) → floorℤ (fin s m e) ≡ pos 0
unfolding floorℤ is_zero
floor_none false m e z = ap pos (small_quotient (m * up e) (down e) (no_digits m e (eqb→eq m 0 z)) (down_pos e)).0
floor_none true m e z = ap (λ (q : ℕ). neg_ℤ (pos q))
    (small_quotient (m * up e) (down e) (no_digits m e (eqb→eq m 0 z)) (down_pos e)).1

-- ---- the float has the sign of x, and the value of the whole number
sign_neg : (q : ℕ) → 0 < q → negative (neg_ℤ (pos q)) ≡ true
sign_neg zero h = absurd (lt_irrefl 0 h)
sign_neg (suc q) h = refl

floor_sign : (s : Bool) (m : ℕ) (e : ℤ) → T (not (is_zero (fin s m e))) → negative (floorℤ (fin s m e)) ≡ s
unfolding floorℤ is_zero
floor_sign false m e n = refl
floor_sign true zero e n = absurd n
floor_sign true (suc m) e n =
    let h : 0 < suc m * up e = mul-pos (zero-lt-suc m) (up_pos e) in
    let p = down_pos e in
    sign_neg (ceil_div (suc m * up e) (down e)) ((le-div_iff_mul-le (down_pos e)).1 (omega arith))

pub floor_value : (s : Bool) (m : ℕ) (e : ℤ) → T (in_domain (fin s m e))
    → HasValue (floor_f64 (fin s m e)) s (nat_abs (floorℤ (fin s m e))) 1
floor_value s m e d = go (is_zero (fin s m e)) (floor_zero (fin s m e) d) (floor_none s m e) (digits s m e)
    (floor_float (fin s m e) d) (floor_sign s m e)
  where
    x : Float
    x = fin s m e

    digits : (s : Bool) (m : ℕ) (e : ℤ) → T (is_zero (fin s m e)) → m ≡ 0
    digits s m e z = unfold is_zero in eqb→eq m 0 z

    go : (b : Bool) → (T b → floor_f64 x ≡ x) → (T b → floorℤ x ≡ pos 0) → (T b → m ≡ 0)
        → (T (not b) → floor_f64 x ≡ of_int binary64 (floorℤ x)) → (T (not b) → negative (floorℤ x) ≡ s)
        → HasValue (floor_f64 x) s (nat_abs (floorℤ x)) 1
    go true a b c f g =
        subst (λ (y : Float). HasValue y s (nat_abs (floorℤ x)) 1) (sym (a tt))
        (subst (λ (z : ℤ). HasValue x s (nat_abs z) 1) (sym (b tt)) (
          refl,
          ap (λ (n : ℕ). n * 1) (no_digits m e (c tt))
              ∙ sym (zero-mul (down e)),
        ))
    go false a b c f g =
        subst (λ (y : Float). HasValue y s (nat_abs (floorℤ x)) 1) (sym (f tt))
        (subst (λ (t : Bool). HasValue (of_int binary64 (floorℤ x)) t (nat_abs (floorℤ x)) 1) (g tt)
        (of_int_value binary64 (floorℤ x) (floor_counted x d)))
