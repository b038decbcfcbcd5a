-- The ceiling is the floor of -x, negated, with the same domain; so it has the floor's size. Assumes nothing.
use Rattle.std.proofs.Common.{◌≡◌, ℕ, ◌*◌, ◌^◌, ◌<◌, ◌≤◌, Bool, true, false, not, T, ℤ, pos, negsuc, neg_ℤ, nat_abs, ◌≤ℤ◌, sym, refl, ap, ◌∙◌, subst, le_trans, lt_of_le_of_lt, lit<, le→leb, w64, SFits}
use lib.IntN.{neg_ℤ-neg_ℤ}
use lib.Signed.{mag, le_z}
use lib.Ieee.{Float, nan, inf, fin, up, down, neg}
use Rattle.exact.proofs.Booleans.{yes_of, no_of}
use Rattle.exact.proofs.Integer.{nat_abs_neg, mag_le}
use Rattle.number.specs.Floor.{ceil_div, floorℤ, in_domain, floor_i64}
use Rattle.number.proofs.FloorLaws.{floor_size, floor_integer, floor_integer_out}
use Rattle.window.specs.Ceil.{ceilℤ, ceil_i64}

pub ceil_floor : (x : Float) → neg_ℤ (floorℤ (neg x)) ≡ ceilℤ x
unfolding ceilℤ floorℤ neg
ceil_floor nan = refl
ceil_floor (inf s) = refl
ceil_floor (fin false m e) = neg_ℤ-neg_ℤ (pos (ceil_div (m * up e) (down e)))
ceil_floor (fin true m e) = refl

pub domain_neg : (x : Float) → in_domain (neg x) ≡ in_domain x
unfolding in_domain neg
domain_neg nan = refl
domain_neg (inf s) = refl
domain_neg (fin s m e) = refl

-- ---- sizes
pub ceil_size : (x : Float) → T (in_domain x) → nat_abs (ceilℤ x) ≤ 2147483648
ceil_size x d =
    subst (λ (n : ℕ). n ≤ 2147483648) (sym (nat_abs_neg (floorℤ (neg x))) ∙ ap nat_abs (ceil_floor x))
    (floor_size (neg x) (subst T (sym (domain_neg x)) d))

-- a number of at most 31 digits fits an i64
pub small_fits : (z : ℤ) → nat_abs z ≤ 2147483648 → mag z < 2 ^ 63
small_fits z h = lt_of_le_of_lt (le_trans (mag_le z) h) (lit< tt)

pub by_test : {A : Type 0} (b : Bool) → (T b → A) → (T (not b) → A) → A
by_test true f g = f tt
by_test false f g = g tt

-- ---- the two answers
pub ceil_in : (x : Float) → T (in_domain x) → ceil_i64 x ≡ ceilℤ x
unfolding ceil_i64
ceil_in x d = yes_of (in_domain x) (ceilℤ x) (negsuc 9223372036854775807) d

pub ceil_out : (x : Float) → T (not (in_domain x)) → ceil_i64 x ≡ negsuc 9223372036854775807
unfolding ceil_i64
ceil_out x d = no_of (in_domain x) (ceilℤ x) (negsuc 9223372036854775807) d

-- ---- what fits an i64
pub floor_fits : (x : Float) → SFits w64 (floor_i64 x)
floor_fits x =
    by_test (in_domain x)
    (λ d. subst (SFits w64) (sym (floor_integer x d)) (record { sfits = small_fits (floorℤ x) (floor_size x d) }))
    (λ d. subst (SFits w64) (sym (floor_integer_out x d)) (record { sfits = lit< tt }))

pub ceil_fits : (x : Float) → SFits w64 (ceil_i64 x)
ceil_fits x =
    by_test (in_domain x)
    (λ d. subst (SFits w64) (sym (ceil_in x d)) (record { sfits = small_fits (ceilℤ x) (ceil_size x d) }))
    (λ d. subst (SFits w64) (sym (ceil_out x d)) (record { sfits = lit< tt }))

pub ceil_most : (x : Float) → ceil_i64 x ≤ℤ pos 2147483648
ceil_most x =
    by_test (in_domain x)
    (λ d. subst (λ (z : ℤ). z ≤ℤ pos 2147483648) (sym (ceil_in x d)) (record { le = most (ceilℤ x) (ceil_size x d) }))
    (λ d. subst (λ (z : ℤ). z ≤ℤ pos 2147483648) (sym (ceil_out x d)) (record { le = tt }))
  where
    most : (z : ℤ) → nat_abs z ≤ 2147483648 → T (le_z z (pos 2147483648))
    most (pos n) h = le→leb n 2147483648 h
    most (negsuc n) h = tt
