-- What the code's r = x ⊕ C ⊖ C is, C being 1.5 * 2^52, for x of the value ±a / c in the domain. The sum has a whole
-- part of all 53 digits, so it rounds to a whole number n, which is the quotient of the shifted value or one more; the
-- difference of whole numbers is exact; and x is below r where n is one more. Assumes nothing.
use Rattle.std.proofs.Common.{◌≡◌, ℕ, suc, ◌-◌, ◌*◌, ◌/◌, ◌%◌, ◌<◌, ◌≤◌, Bool, true, false, cond, not, T, ltb, ℤ, pos, negsuc, ◌-ℤ◌, nat_abs, sym, refl, ap, ◌∙◌, subst, inl, inr, le_trans, le_refl, lt_of_le_of_lt, le_of_lt, zero-lt-suc, div-lt_iff_lt-mul, add_comm, le_antisymm, lt_of_mul-lt-mul_right, le-div_iff_mul-le, mul-one, not-le_of_lt, div-mul-le_self, arith, lit≤, ltb→lt, lt→ltb, nltb→le}
use Prim.Native.Nat.{compare}
use lib.IntN.{sub_ℕ, pred_ℤ, pred-suc, suc_ℤ-+ℤ, -ℤ_one, +ℤ_idr}
use lib.Dec.{not_T}
use lib.Ieee.{Float, binary64, round, sum, lt, of_bits, of_int, in_float}
use lib.Ieee.Fits.{round-fits, of_int-fits, nearest-le}
use lib.Ieee.Exact.{HasValue}
use lib.Ieee.Nearest.{closest, nearest-ge}
use lib.Ieee.Back.{whole_unique}
use Rattle.exact.specs.Double.{◌⊕◌, ◌⊖◌}
use Rattle.exact.proofs.Operands.{same_test, add_values, lt_values}
use Rattle.exact.proofs.RoundedValue.{round_to_whole}
use Rattle.exact.proofs.Value.{rescale}
use Rattle.exact.proofs.Integer.{negative, counted, of_int_value, of_int_sub}
use Rattle.number.proofs.FloorNear.{shift, floor_of, floor_shift, sub_split, below_shift}

-- 1.5 * 2 ^ 52, as a number and as the code's constant
abbrev pub K : ℕ
K = 6755399441055744

abbrev pub C : Float
C = of_bits binary64 0x4338_0000_0000_0000

C-is : C ≡ of_int binary64 (pos K)
unfolding of_bits of_int
C-is = refl

C-value : (c : ℕ) → HasValue C false (K * c) c
unfolding of_bits
C-value c = (refl, sym (mul-one (K * c)))

shift_sum : (s : Bool) (a c : ℕ) → 0 < c → a ≤ 2147483648 * c
    → sum binary64 s a false (K * c) c ≡ round binary64 false (shift s a c K) c
unfolding sum
shift_sum false a c P A = ap (λ (n : ℕ). round binary64 false n c) (add_comm a (K * c))
shift_sum true a c P A =
    ap (λ (u : Bool). cond u (round binary64 false (K * c - a) c) (round binary64 (ltb (K * c) a) (a - K * c) c))
    (same_test (ltb a (K * c)) true (λ t. tt) (λ t. lt→ltb a (K * c) (omega arith)))

-- the shifted value is between 2 ^ 52 and 2 ^ 53
shift_lo : (s : Bool) (a c : ℕ) → 0 < c → a ≤ 2147483648 * c → 4503599627370496 * c ≤ shift s a c K
shift_lo false a c P A = omega arith
shift_lo true a c P A = omega arith

shift_hi : (s : Bool) (a c : ℕ) → 0 < c → a ≤ 2147483648 * c → shift s a c K < 9007199254740992 * c
shift_hi false a c P A = omega arith
shift_hi true a c P A = omega arith

-- n - K is at most 2 ^ 51 either way
small : (n : ℕ) → 4503599627370496 ≤ n → n ≤ 9007199254740992 → nat_abs (sub_ℕ n K) ≤ 2251799813685248
small n lo hi = elim (sub_split n K) [
  | inl (j, e, z) ↦ subst (λ (i : ℤ). nat_abs i ≤ 2251799813685248) (sym z) (omega arith)
  | inr (j, e, z) ↦ subst (λ (i : ℤ). nat_abs i ≤ 2251799813685248) (sym z) (omega arith)
]

pub counts : (z : ℤ) → nat_abs z ≤ 2251799813685248 → T (in_float binary64 z)
counts z h = counted binary64 z (le_trans h (lit≤ tt))

-- a number n next to N / c is the quotient, or one more where N is below n * c
pred_sub : (w : ℕ) → sub_ℕ (suc w) K -ℤ pos 1 ≡ sub_ℕ w K
pred_sub w = -ℤ_one (sub_ℕ (suc w) K) ∙ ap pred_ℤ (suc_ℤ-+ℤ (pos w) (negsuc 6755399441055743)) ∙ pred-suc (sub_ℕ w K)

next : (b : Bool) (N c n : ℕ) → 0 < c → N / c ≤ n → n ≤ suc (N / c) → ltb N (n * c) ≡ b
    → sub_ℕ n K -ℤ cond b (pos 1) (pos 0) ≡ sub_ℕ (N / c) K
next true N c n P lo hi e =
    ap (λ (k : ℕ). sub_ℕ k K -ℤ pos 1)
    (le_antisymm hi (lt_of_mul-lt-mul_right c
    (lt_of_le_of_lt (div-mul-le_self N c) (ltb→lt N (n * c) (subst T (sym e) tt)))))
    ∙ pred_sub (N / c)
next false N c n P lo hi e =
    +ℤ_idr (sub_ℕ n K)
    ∙ ap (λ (k : ℕ). sub_ℕ k K)
    (le_antisymm ((le-div_iff_mul-le P).1 (nltb→le N (n * c) (subst (λ (b : Bool). T (not b)) (sym e) tt))) lo)

module _ (x : Float) (s : Bool) (a c : ℕ) (P : 0 < c) (A : a ≤ 2147483648 * c) (v : HasValue x s a c) where
  -- the shifted value, its quotient, and the whole number that it rounds to
  abbrev N : ℕ
  N = shift s a c K

  abbrev n : ℕ
  n = closest N c

  quotient_lo : 4503599627370496 ≤ N / c
  quotient_lo = (le-div_iff_mul-le P).1 (shift_lo s a c P A)

  quotient_hi : N / c < 9007199254740992
  quotient_hi = (div-lt_iff_lt-mul P).1 (shift_hi s a c P A)

  near_ge : N / c ≤ n
  near_ge = nearest-ge (N / c) (compare (N % c * 2) c)

  near_le : n ≤ suc (N / c)
  near_le = nearest-le (N / c) (compare (N % c * 2) c)

  near_counted : T (in_float binary64 (pos n))
  near_counted = counted binary64 (pos n) (le_trans near_le quotient_hi)

  sum_is : x ⊕ C ≡ of_int binary64 (pos n)
  sum_is =
      add_values binary64 x C s false a (K * c) c P v (C-value c)
      ∙ shift_sum s a c P A
      ∙ whole_unique binary64 (round binary64 false N c) (of_int binary64 (pos n)) false n
      (round-fits binary64 false N c) (of_int-fits binary64 (pos n))
      (round_to_whole binary64 false N c P (shift_lo s a c P A) (shift_hi s a c P A))
      (of_int_value binary64 (pos n) near_counted)

  pub near_is : x ⊕ C ⊖ C ≡ of_int binary64 (sub_ℕ n K)
  near_is = (λ i. sum_is i ⊖ C-is i)
      ∙ of_int_sub binary64 (pos n) (pos K) near_counted (counted binary64 (pos K) (lit≤ tt))

  pub near_small : nat_abs (sub_ℕ n K) ≤ 2251799813685248
  near_small = small n (le_trans quotient_lo near_ge) (le_trans near_le quotient_hi)

  -- x is below a whole number where the shifted value is below the shifted number
  lt_whole : (w : ℕ) → nat_abs (sub_ℕ w K) ≤ 2251799813685248 → lt x (of_int binary64 (sub_ℕ w K)) ≡ ltb N (w * c)
  lt_whole w h =
      let z : ℤ = sub_ℕ w K in
      lt_values x (of_int binary64 z) s (negative z) a (nat_abs z * c) c P v
      (rescale (of_int binary64 z) (negative z) (nat_abs z) 1 (nat_abs z * c) c (zero-lt-suc 0)
      (sym (mul-one (nat_abs z * c))) (of_int_value binary64 z (counts z h)))
      ∙ below_shift s a c K w (omega arith) P

  floor_is : floor_of s a c ≡ sub_ℕ (N / c) K
  floor_is = floor_shift s a c K (N / c) P (omega arith) (div-mul-le_self N c)
      ((div-lt_iff_lt-mul P).0 (le_refl (suc (N / c))))

  pub near_fall : sub_ℕ n K -ℤ cond (lt x (x ⊕ C ⊖ C)) (pos 1) (pos 0) ≡ floor_of s a c
  near_fall = next (lt x (x ⊕ C ⊖ C)) N c n P near_ge near_le (sym (ap (lt x) near_is ∙ lt_whole n near_small))
      ∙ sym floor_is

  pub floor_under : T (not (lt x (of_int binary64 (floor_of s a c))))
  floor_under =
      not_T (lt x (of_int binary64 (floor_of s a c))) (λ t.
      not-le_of_lt
      (ltb→lt N (N / c * c) (subst T (ap (λ (z : ℤ). lt x (of_int binary64 z)) floor_is
      ∙ lt_whole (N / c) (small (N / c) quotient_lo (le_of_lt quotient_hi))) t))
      (div-mul-le_self N c))
