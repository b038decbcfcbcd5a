-- Integers that a format counts without a gap, as floats: their values, their sums and differences, which are those of
-- the integers rounded once, and the way back. A sum of floats is the sum of their values, and -0 comes out of none.
-- Assumes nothing.
use mathlib.Core.Path.{◌≡◌, refl, sym, ap, ◌∙◌}
use Prim.Native.Nat.{ℕ, zero, suc, ◌+◌, ◌-◌, ◌^◌, ◌≤◌, ◌<◌}
use native.Mathlib.Nat.{le_refl, le-suc, zero-lt-suc, not-suc-le-zero, add-zero}
use native.Mathlib.Omega.{arith}
use mathlib.Core.Bool.{Bool, true, false, not, ◌&&◌, cond}
use lib.IntN.{ℤ, pos, negsuc, neg_ℤ, nat_abs, sub_ℕ, ◌+ℤ◌, ◌-ℤ◌, +ℤ_idr}
use lib.Signed.{mag}
use lib.Dec.{T, ltb, ltb→lt, lt→ltb, nltb→le, leb→le, le→leb}
use lib.Ieee.{Format, prec, round, sum, add, sub, of_int, in_float, in_signed, to_signed}
use lib.Ieee.Exact.{HasValue}
use lib.Ieee.Back.{round_whole, positive_back, negative_back}
use Rattle.exact.proofs.Operands.{same_test, add_values, sub_values}

-- ---- the sign and the size are the value
abbrev pub negative : ℤ → Bool
negative (pos n) = false
negative (negsuc n) = true

pub nat_abs_neg : (z : ℤ) → nat_abs (neg_ℤ z) ≡ nat_abs z
nat_abs_neg (pos zero) = refl
nat_abs_neg (pos (suc n)) = refl
nat_abs_neg (negsuc n) = refl

pub mag_le : (z : ℤ) → mag z ≤ nat_abs z
mag_le (pos n) = le_refl n
mag_le (negsuc n) = le-suc n

pub counted : (f : Format) (z : ℤ) → nat_abs z ≤ 2 ^ prec f → T (in_float f z)
unfolding in_float
counted f (pos n) h = le→leb n (2 ^ prec f) h
counted f (negsuc n) h = lt→ltb n (2 ^ prec f) h

pub of_int_value : (f : Format) (z : ℤ) → T (in_float f z) → HasValue (of_int f z) (negative z) (nat_abs z) 1
unfolding in_float of_int
of_int_value f (pos n) t = round_whole f false n (leb→le n (2 ^ prec f) t)
of_int_value f (negsuc n) t = round_whole f true (suc n) (ltb→lt n (2 ^ prec f) t)

-- ---- sums and differences
gap : (a b : ℕ) → a < b → b - a ≡ suc (b - suc a)
gap a b h = omega arith

no_less : (a : ℕ) → ltb a 0 ≡ false
no_less a = same_test (ltb a 0) false (λ t. absurd (not-suc-le-zero (ltb→lt a 0 t))) (λ t. absurd t)

-- a - b, as the sum of a and -b, and of -b and a
less_more : (f : Format) (a b : ℕ) → sum f false a true b 1 ≡ of_int f (sub_ℕ a b)
unfolding sum of_int
less_more f a b = go (ltb a b) (ltb→lt a b)
  where
    go : (u : Bool) → (T u → a < b)
        → cond u (round f true (b - a) 1) (round f false (a - b) 1) ≡ of_int f
        (cond u (negsuc (b - suc a)) (pos (a - b)))
    go true h = ap (λ (k : ℕ). round f true k 1) (gap a b (h tt))
    go false h = refl

clash : (a b : ℕ) → a < b → b < a → ⊥
clash a b h k = omega arith

level : (a b : ℕ) → a ≤ b → b ≤ a → b - a ≡ a - b
level a b h k = omega arith

more_less : (f : Format) (a b : ℕ) → sum f true b false a 1 ≡ of_int f (sub_ℕ a b)
unfolding sum of_int
more_less f a b = go (ltb b a) (ltb a b) (ltb→lt b a) (ltb→lt a b) (nltb→le b a) (nltb→le a b)
  where
    go : (v u : Bool) → (T v → b < a) → (T u → a < b) → (T (not v) → a ≤ b) → (T (not u) → b ≤ a)
        → cond v (round f false (a - b) 1) (round f (true && u) (b - a) 1) ≡ of_int f
        (cond u (negsuc (b - suc a)) (pos (a - b)))
    go true true k h m l = absurd (clash a b (h tt) (k tt))
    go true false k h m l = refl
    go false true k h m l = ap (λ (j : ℕ). round f true j 1) (gap a b (h tt))
    go false false k h m l = ap (λ (j : ℕ). round f false j 1) (level a b (m tt) (l tt))

sum_int : (f : Format) (z w : ℤ) → sum f (negative z) (nat_abs z) (negative w) (nat_abs w) 1 ≡ of_int f (z +ℤ w)
sum_int f (pos a) (pos b) = unfold sum of_int in refl
sum_int f (pos a) (negsuc b) = less_more f a (suc b)
sum_int f (negsuc a) (pos b) = more_less f b (suc a)
sum_int f (negsuc a) (negsuc b) = unfold sum of_int in ap (λ (k : ℕ). round f true k 1) (two_more a b)
  where
    two_more : (a b : ℕ) → suc a + suc b ≡ suc (suc (a + b))
    two_more a b = omega arith

pub of_int_add : (f : Format) (z w : ℤ) → T (in_float f z) → T (in_float f w)
    → add f (of_int f z) (of_int f w) ≡ of_int f (z +ℤ w)
of_int_add f z w p q = add_values f (of_int f z) (of_int f w) (negative z) (negative w) (nat_abs z) (nat_abs w) 1
    (zero-lt-suc 0) (of_int_value f z p) (of_int_value f w q) ∙ sum_int f z w

-- less -0, which negation makes of 0
sum_zero : (f : Format) (z : ℤ) → sum f (negative z) (nat_abs z) true 0 1 ≡ of_int f z
sum_zero f (pos a) = unfold sum of_int in
    ap (λ (u : Bool). cond u (round f true (0 - a) 1) (round f false (a - 0) 1)) (no_less a)
    ∙ ap (λ (k : ℕ). round f false k 1) (less_none a)
  where
    less_none : (a : ℕ) → a - 0 ≡ a
    less_none a = omega arith
sum_zero f (negsuc a) = unfold sum of_int in ap (λ (k : ℕ). round f true k 1) (add-zero (suc a))

pub of_int_sub : (f : Format) (z w : ℤ) → T (in_float f z) → T (in_float f w)
    → sub f (of_int f z) (of_int f w) ≡ of_int f (z -ℤ w)
of_int_sub f z w p q = sub_values f (of_int f z) (of_int f w) (negative z) (negative w) (nat_abs z) (nat_abs w) 1
    (zero-lt-suc 0) (of_int_value f z p) (of_int_value f w q) ∙ flip w
  where
    flip : (w : ℤ) → sum f (negative z) (nat_abs z) (not (negative w)) (nat_abs w) 1 ≡ of_int f (z -ℤ w)
    flip (pos zero) = sum_zero f z ∙ ap (of_int f) (sym (+ℤ_idr z))
    flip (pos (suc b)) = sum_int f z (negsuc b)
    flip (negsuc b) = sum_int f z (pos (suc b))

-- ---- and back
pub of_int_back : (f : Format) (h : ℕ) (z : ℤ) → T (in_float f z) → mag z < 2 ^ h → T (in_signed f h (of_int f z))
    × (to_signed h (of_int f z) ≡ z)
of_int_back f h (pos n) t r = positive_back f h n t r
of_int_back f h (negsuc n) t r = negative_back f h n t r
