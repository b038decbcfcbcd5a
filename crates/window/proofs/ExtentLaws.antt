-- A side of the window in whole numbers: what its tests are, and where it is beyond the limits. Assumes nothing.
use Rattle.std.proofs.Common.{◌≡◌, ℕ, suc, ◌<◌, ◌≤◌, Bool, true, false, cond, ◌&&◌, T, ltb, leb, ℤ, pos, negsuc, ◌-ℤ◌, nat_abs, sym, refl, ap, ◌∙◌, subst, arith, leb→le, le-leb}
use borrow.Author.Tests.{lt-leb}
use lib.Signed.{le_z}
use lib.Dec.{leb-suc-suc}
use Rattle.exact.proofs.Booleans.{and_true}
use Rattle.std.specs.Prelude.{Some, None}
use Rattle.window.specs.Extent.{side, good_offset, good_length, held, at_least_one, from_to}
use Rattle.window.proofs.DifferenceLaws.{Count, one_positive, diff_low, diff_high}

-- ---- the tests
pub offset_tests : (z : ℤ) → (le_z (negsuc 1048575) z && le_z z (pos 1048576)) ≡ good_offset z
unfolding good_offset
offset_tests (pos n) = refl
offset_tests (negsuc n) = and_true (leb n 1048575) ∙ sym (leb-suc-suc n 1048575)

pub offset_le : (z : ℤ) → good_offset z ≡ true → nat_abs z ≤ 1048576
unfolding good_offset
offset_le z h = leb→le (nat_abs z) 1048576 (subst T (sym h) tt)

pub offset_far : (z : ℤ) → 1048576 < nat_abs z → good_offset z ≡ false
unfolding good_offset
offset_far z h = lt-leb (nat_abs z) 1048576 h

-- ---- what is beyond the limits
pub held_off : (z : ℤ) (n : ℕ) → good_offset z ≡ false → held z n ≡ None
unfolding held
held_off z n h = ap (λ (b : Bool). cond (b && good_length n) (Some (side z n)) None) h

pub held_long : (z : ℤ) (n : ℕ) → 4096 < n → held z n ≡ None
unfolding held good_length
held_long z n h = ap (λ (t : Bool). cond (good_offset z && (ltb 0 n && t)) (Some (side z n)) None) (lt-leb n 4096 h)
    ∙ go (good_offset z) (ltb 0 n)
  where
    go : (b c : Bool) → cond (b && (c && false)) (Some (side z n)) None ≡ None
    go false c = refl
    go true false = refl
    go true true = refl

pub reach_off : (z y : ℤ) → good_offset z ≡ false → from_to z y ≡ None
unfolding from_to
reach_off z y h = held_off z (at_least_one (y -ℤ z)) h

-- where the offset is good, or where it is not
by_offset : {A : Type 0} (b : Bool) → (b ≡ true → A) → (b ≡ false → A) → A
by_offset true f g = f refl
by_offset false f g = g refl

-- an end so high that the side is too long
pub reach_high : (z : ℤ) (q : ℕ) → 1052672 < q → from_to z (pos q) ≡ None
unfolding from_to
reach_high z q h = by_offset (good_offset z) (λ g. long g (diff_high (pos q) z (above z (offset_le z g))))
    (reach_off z (pos q))
  where
    above : (z : ℤ) → nat_abs z ≤ 1048576 → le_z (pos q) z ≡ false
    above (pos b) k = lt-leb q b (omega arith)
    above (negsuc b) k = refl

    long : good_offset z ≡ true → Count (pos q -ℤ z) q (nat_abs z) → held z (at_least_one (pos q -ℤ z)) ≡ None
    long g c =
        let k = offset_le z g in
        ap (held z) (ap at_least_one c.is ∙ one_positive c.d) ∙ held_long z (suc c.d) (omega (arith, c.least))

-- an end so low that the side is 1
low_end : (z : ℤ) (k : ℕ) → good_offset z ≡ true → 1048576 ≤ suc k → from_to z (negsuc k) ≡ held z 1
unfolding from_to
low_end z k g h = ap (held z) (diff_low (negsuc k) z (under z (offset_le z g)))
  where
    under : (z : ℤ) → nat_abs z ≤ 1048576 → le_z (negsuc k) z ≡ true
    under (pos b) l = refl
    under (negsuc b) l = le-leb b k (omega arith)

pub reach_low : (z : ℤ) (j k : ℕ) → 1048576 ≤ suc j → 1048576 ≤ suc k → from_to z (negsuc j) ≡ from_to z (negsuc k)
reach_low z j k h l =
    by_offset (good_offset z) (λ g. low_end z j g h ∙ sym (low_end z k g l))
    (λ g. reach_off z (negsuc j) g ∙ sym (reach_off z (negsuc k) g))
