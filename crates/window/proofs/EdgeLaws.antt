-- An edge beyond 2^31 is beyond the limits: the floor there is at least 2^31 in size, and so is the ceiling. So the
-- whole numbers that floor and ceil count give the same side as the floor and the ceiling of any float. Assumes
-- nothing.
use Rattle.std.proofs.Common.{◌≡◌, ℕ, zero, suc, ◌*◌, ◌/◌, ◌<◌, ◌≤◌, Bool, true, false, cond, not, ◌&&◌, T, ltb, leb, ℤ, pos, negsuc, neg_ℤ, nat_abs, sym, refl, ap, ◌∙◌, subst, true≢false, le-div_iff_mul-le, arith, lit<, lit≤, le→leb, ltb→lt, leb→le, nltb→le}
use lib.Dec.{nleb→lt, not_T}
use lib.Ieee.{Float, nan, inf, fin, up, down, lt, le, of_bits}
use lib.Ieee.Fits.{down_pos}
use lib.Ieee.Scale.{finite}
use Rattle.exact.proofs.Integer.{nat_abs_neg}
use Rattle.exact.proofs.Operands.{same_test}
use Rattle.exact.proofs.Order.{le_flip}
use Rattle.number.specs.Floor.{ceil_div, floorℤ, in_domain, domain_end, floor_i64}
use Rattle.number.proofs.FloorLaws.{floor_integer, floor_integer_out}
use Rattle.std.specs.Prelude.{None}
use Rattle.window.specs.Ceil.{ceilℤ, ceil_i64}
use Rattle.window.specs.Extent.{good_offset, from_to}
use Rattle.window.proofs.CeilLaws.{by_test, ceil_in, ceil_out}
use Rattle.window.proofs.ExtentLaws.{offset_far, reach_off, reach_high, reach_low}

-- ---- quotients of what is at least 2^31
module _ (a c : ℕ) (P : 0 < c) (h : 2147483648 * c < a) where
  rounded_down : 2147483648 ≤ a / c
  rounded_down = (le-div_iff_mul-le P).1 (omega arith)

  rounded_up : 2147483648 ≤ ceil_div a c
  rounded_up = (le-div_iff_mul-le P).1 (omega arith)

outside : (s : Bool) (m : ℕ) (e : ℤ) → T (not (in_domain (fin s m e))) → 2147483648 * down e < m * up e
unfolding in_domain
outside s m e d = nleb→lt (m * up e) (2147483648 * down e) d

floor_far : (s : Bool) (m : ℕ) (e : ℤ) → T (not (in_domain (fin s m e))) → 2147483648 ≤ nat_abs (floorℤ (fin s m e))
unfolding floorℤ
floor_far false m e d = rounded_down (m * up e) (down e) (down_pos e) (outside false m e d)
floor_far true m e d = subst (λ (q : ℕ). 2147483648 ≤ q) (sym (nat_abs_neg (pos (ceil_div (m * up e) (down e)))))
    (rounded_up (m * up e) (down e) (down_pos e) (outside true m e d))

-- ---- the low edge
least_off : good_offset (negsuc 9223372036854775807) ≡ false
least_off = offset_far (negsuc 9223372036854775807) (lit< tt)

pub low_edge : (x : Float) (y : ℤ) → from_to (floor_i64 x) y ≡ cond (finite x) (from_to (floorℤ x) y) None
low_edge nan y = ap (λ (z : ℤ). from_to z y) (floor_integer_out nan (unfold in_domain in tt))
    ∙ reach_off (negsuc 9223372036854775807) y least_off
low_edge (inf s) y = ap (λ (z : ℤ). from_to z y) (floor_integer_out (inf s) (unfold in_domain in tt))
    ∙ reach_off (negsuc 9223372036854775807) y least_off
low_edge (fin s m e) y =
    by_test (in_domain (fin s m e))
    (λ d. ap (λ (z : ℤ). from_to z y) (floor_integer (fin s m e) d))
    (λ d.
    ap (λ (z : ℤ). from_to z y) (floor_integer_out (fin s m e) d)
    ∙ reach_off (negsuc 9223372036854775807) y least_off
    ∙ sym (reach_off (floorℤ (fin s m e)) y
    (offset_far (floorℤ (fin s m e)) (beyond (nat_abs (floorℤ (fin s m e))) (floor_far s m e d)))))
  where
    beyond : (n : ℕ) → 2147483648 ≤ n → 1048576 < n
    beyond n h = omega arith

-- ---- the high edge, that is a number and at most 2^31, or not
turned : (a b : ℕ) → not (ltb b (a * 1)) ≡ leb a b
turned a b =
    same_test (not (ltb b (a * 1))) (leb a b) (λ t. let h = nltb→le b (a * 1) t in le→leb a b (omega arith))
    (λ t. let h = leb→le a b t in not_T (ltb b (a * 1)) (λ u. let g = ltb→lt b (a * 1) u in omega arith))

le_edge : (m : ℕ) (e : ℤ) → le (fin false m e) domain_end ≡ in_domain (fin false m e)
unfolding of_bits in_domain lt
le_edge m e = le_flip false false m 1 e (pos 31) ∙ turned (m * up e) (2147483648 * down e)

under_edge : (m : ℕ) (e : ℤ) → le (fin true m e) domain_end ≡ true
unfolding of_bits lt
under_edge m e = le_flip true false m 1 e (pos 31)

pub high_refused : (x : Float) (z : ℤ) → (finite x && le x domain_end) ≡ false
    → cond (finite x) (from_to z (ceilℤ x)) None ≡ None
high_refused nan z h = refl
high_refused (inf s) z h = refl
high_refused (fin true m e) z h = absurd (true≢false (sym (under_edge m e) ∙ h))
high_refused (fin false m e) z h =
    unfold ceilℤ in
    reach_high z (ceil_div (m * up e) (down e))
    (beyond (ceil_div (m * up e) (down e))
    (rounded_up (m * up e) (down e) (down_pos e)
    (outside false m e (subst (λ (b : Bool). T (not b)) (sym h ∙ le_edge m e) tt))))
  where
    beyond : (n : ℕ) → 2147483648 ≤ n → 1052672 < n
    beyond n h = omega arith

-- far below: the ceiling is some -q, with q from 2^31 on
reach_far : (z : ℤ) (q : ℕ) → 2147483648 ≤ q → from_to z (negsuc 9223372036854775807) ≡ from_to z (neg_ℤ (pos q))
reach_far z zero h = absurd (none h)
  where
    none : 2147483648 ≤ 0 → ⊥
    none h = omega arith
reach_far z (suc k) h = reach_low z 9223372036854775807 k (lit≤ tt) (omega arith)

pub high_edge : (x : Float) (z : ℤ) → (finite x && le x domain_end) ≡ true
    → from_to z (ceil_i64 x) ≡ cond (finite x) (from_to z (ceilℤ x)) None
high_edge nan z h = absurd (true≢false (sym h))
high_edge (inf s) z h = absurd (true≢false (sym h))
high_edge (fin false m e) z h = ap (from_to z) (ceil_in (fin false m e) (subst T (sym h ∙ le_edge m e) tt))
high_edge (fin true m e) z h =
    by_test (in_domain (fin true m e))
    (λ d. ap (from_to z) (ceil_in (fin true m e) d))
    (λ d. ap (from_to z) (ceil_out (fin true m e) d)
    ∙ (unfold ceilℤ in reach_far z (m * up e / down e)
    (rounded_down (m * up e) (down e) (down_pos e) (outside true m e d))))
