-- Where a pixel asks: i + offset is a whole number of at most 21 digits, and with 0.5 it has one digit more, so nothing
-- is rounded; and no whole number and a half is below 1/2 in size. Provides: `whole_add`, `asked_exact` (a number, with
-- the value i + offset + 1/2), `asked_coordinate` (and from 1/2 to 2 ^ 21 in size). Assumes nothing.
use mathlib.Core.Path.{◌≡◌, sym, ap, subst⁻¹}
use mathlib.Core.Bool.{Bool, true, false, not, cond}
use Prim.Native.Nat.{ℕ, suc, ◌+◌, ◌-◌, ◌*◌, ◌^◌, ◌≤◌, ◌<◌}
use native.Mathlib.Nat.{le_trans, lt_of_lt_of_le, lt_of_le_of_lt, mul_assoc, zero-lt-suc}
use native.Mathlib.Omega.{arith}
use lib.IntN.{ℤ, pos, negsuc, nat_abs, sub_ℕ, ◌+ℤ◌}
use lib.Dec.{T, ltb, ltb→lt, nltb→le, lit≤, lit<}
use lib.Pow.{pow_pos, shl_lt}
use lib.Ieee.{Float, binary64, of_bits, of_int}
use lib.Ieee.Scale.{finite, overflow}
use Rattle.exact.specs.Fraction.{frac, whole, value, ◌≈◌, ◌+F◌}
use Rattle.exact.specs.Rounds.{signed_f}
use Rattle.exact.specs.Double.{◌⊕◌, half}
use Rattle.exact.specs.Sums.{PixelCoordinate, asked, asked_f}
use Rattle.exact.proofs.Scale.{at_le, at_more, at_ratio}
use Rattle.exact.proofs.Near.{add_same}
use Rattle.exact.proofs.Products.{eq_refl, ◌⨟◌, back}
use Rattle.exact.proofs.Signed.{signed_scale}
use Rattle.exact.proofs.Magnitude.{sized_same, abs_sized}
use Rattle.exact.proofs.Monotone.{rounds_fixed}
use Rattle.exact.proofs.Operations.{add_rounds, int_value}
use Rattle.exact.proofs.Integer.{counted, of_int_add}

-- ---- whole numbers
less_add : (a b : ℕ) → whole (sub_ℕ a (suc b)) ≈ whole (pos a) +F whole (negsuc b)
unfolding ◌+F◌
less_add a b = go (ltb a (suc b)) (ltb→lt a (suc b)) (nltb→le a (suc b))
  where
    go : (t : Bool) → (T t → a < suc b) → (T (not t) → suc b ≤ a)
        → whole (cond t (negsuc (suc b - suc a)) (pos (a - suc b))) ≈ whole (pos a) +F whole (negsuc b)
    go true h k = let l = h tt in record { eq = omega arith }
    go false h k = let l = k tt in record { eq = omega arith }

pub whole_add : (i : ℕ) (o : ℤ) → whole (pos i +ℤ o) ≈ whole (pos i) +F whole o
whole_add i (pos n) = unfold ◌+F◌ in record { eq = omega arith }
whole_add i (negsuc n) = less_add i n

size_add : (i : ℕ) (o : ℤ) → nat_abs (pos i +ℤ o) ≤ i + nat_abs o
size_add i (pos n) = omega arith
size_add i (negsuc n) = go (ltb i (suc n)) (nltb→le i (suc n))
  where
    go : (t : Bool) → (T (not t) → suc n ≤ i) → nat_abs (cond t (negsuc (suc n - suc i)) (pos (i - suc n))) ≤ i + suc n
    go true k = omega arith
    go false k = omega arith

-- ---- and a half: (2 n + 1) / 2 with the sign of the number
abbrev below : ℤ → Bool
below (pos n) = false
below (negsuc n) = true

abbrev halves : ℤ → ℕ
halves (pos n) = 2 * n + 1
halves (negsuc n) = 2 * n + 1

half_value : (z : ℤ) → whole z +F frac 1 2 ≈ signed_f (below z) (halves z) 2
half_value (pos n) = unfold ◌+F◌ in record { eq = omega arith }
half_value (negsuc n) = unfold ◌+F◌ in record { eq = omega arith }

half_least : (z : ℤ) → 1 ≤ halves z
half_least (pos n) = omega arith
half_least (negsuc n) = omega arith

half_most : (z : ℤ) → nat_abs z ≤ 1052672 → halves z ≤ 4194304
half_most (pos n) h = omega arith
half_most (negsuc n) h = omega arith

half_units : (s : Bool) (q : ℕ) → signed_f s q 2 ≈ signed_f s (q * 2 ^ 1073) (2 ^ 1074)
half_units s q = signed_scale s q 2 (q * 2 ^ 1073) (2 ^ 1074) (zero-lt-suc 1) (pow_pos 1074)
    (sym (mul_assoc q (2 ^ 1073) 2))

half_is : T (finite half) × (value half ≈ frac 1 2)
unfolding of_bits
half_is = (tt, eq_refl (frac 1 2))

module _ (z : ℤ) (h : nat_abs z ≤ 1052672) where
  half_exact : T (finite (of_int binary64 z ⊕ half)) × (value (of_int binary64 z ⊕ half) ≈ signed_f (below z) (halves z) 2)
  half_exact =
      let w = int_value binary64 z (counted binary64 z (le_trans h (lit≤ tt))) in
      let e : value (of_int binary64 z) +F value half ≈ signed_f (below z) (halves z) 2 =
      add_same (value (of_int binary64 z)) (whole z) (value half) (frac 1 2) w.1 half_is.1 ⨟ half_value z in
      let q = rounds_fixed (add_rounds binary64 (of_int binary64 z) half w.0 half_is.0) (below z) (halves z) 1073
      (le_trans (half_most z h) (lit≤ tt)) (under (halves z) (half_most z h))
      (e ⨟ half_units (below z) (halves z)) in
      (q.0, q.1 ⨟ e)
    where
      under : (q : ℕ) → q ≤ 4194304 → q * 2 ^ 1073 < overflow binary64
      under q h = lt_of_lt_of_le (shl_lt 23 1073 (lt_of_le_of_lt h (lit< tt))) (lit≤ tt)

-- ---- the pixel's coordinate
module _ (i : ℕ) (o : ℤ) (I : i ≤ 4096) (O : nat_abs o ≤ 1048576) where
  in_all : nat_abs (pos i +ℤ o) ≤ 1052672
  in_all = le_trans (size_add i o) (go (nat_abs o) O)
    where
      go : (n : ℕ) → n ≤ 1048576 → i + n ≤ 1052672
      go n h = omega arith

  is_int : asked i o ≡ of_int binary64 (pos i +ℤ o) ⊕ half
  is_int = ap (λ (s : Float). s ⊕ half)
      (of_int_add binary64 (pos i) o (counted binary64 (pos i) (le_trans I (lit≤ tt)))
      (counted binary64 o (le_trans O (lit≤ tt))))

  halved : T (finite (asked i o)) × (value (asked i o) ≈ signed_f (below (pos i +ℤ o)) (halves (pos i +ℤ o)) 2)
  halved = subst⁻¹ (λ (r : Float). T (finite r) × (value r ≈ signed_f (below (pos i +ℤ o)) (halves (pos i +ℤ o)) 2))
      is_int (half_exact (pos i +ℤ o) in_all)

  pub asked_exact : T (finite (asked i o)) × (value (asked i o) ≈ asked_f i o)
  asked_exact = (
    halved.0,
    halved.1 ⨟ back (half_value (pos i +ℤ o)) ⨟ add_same (whole (pos i +ℤ o)) (whole (pos i)
        +F whole o) (frac 1 2) (frac 1 2) (whole_add i o) (eq_refl (frac 1 2)),
  )

  pub asked_coordinate : PixelCoordinate (asked i o) (asked_f i o)
  asked_coordinate =
      let z : ℤ = pos i +ℤ o in
      let A = abs_sized 2 (zero-lt-suc 1) (below z) (halves z)
      (sized_same (below z) (halves z) 2 (zero-lt-suc 1) (back halved.1)) in
      let lo = half_least z in
      let hi = half_most z in_all in
      record {
        number = halved.0;
        is = asked_exact.1;
        least = at_le 2 (zero-lt-suc 1) (at_ratio 1 0 2 (zero-lt-suc 1)) A (omega arith);
        most = at_le 2 (zero-lt-suc 1) A (at_more 1 2 (at_ratio 2097152 0 1 (zero-lt-suc 0))) (omega arith);
      }
