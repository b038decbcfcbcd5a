-- What a fit may take for granted: where none of the refusals 3 to 7 applies, each of the table's tests failed, and
-- each that failed says something of the method, the count, the numbers, the order and the pairs. Assumes nothing.
use mathlib.Core.Path.{◌≡◌, subst}
use mathlib.Core.Logic.{◌⊎◌, ⊎_elim}
use mathlib.Core.Bool.{Bool, true, false, not, ◌&&◌, ◌||◌}
use mathlib.Core.List.{List}
use Prim.Native.Nat.{ℕ, ◌+◌, ◌-◌, ◌*◌, ◌/◌, ◌%◌, ◌≤◌, ◌<◌}
use native.Mathlib.Omega.{arith}
use lib.Dec.{T, eqb, ltb}
use lib.ListN.{length}
use lib.Ieee.{Float, binary64, fits}
use lib.Ieee.Bits.{of_bits-fits}
use borrow.Author.Tests.{ltb-false, eqb-true, not-false}
use Rattle.endian.specs.Bytes.{argument_at}
use Rattle.arguments.specs.Method.{
  affine_projection_code,
  perspective_projection_code,
  polynomial_code,
  barrel_code,
  barrel_inverse_code,
  present,
  pair_method,
  skip,
  least_pairs,
}
use Rattle.arguments.specs.Order.{good_order}
use Rattle.arguments.specs.Store.{count_of, order_of}
use Rattle.arguments.specs.Refusal.{
  bad_values,
  bad_for,
  bad_count,
  good_number,
  bad_argument,
  bad_order,
  pairs_of,
  few_pairs,
  arguments_refusal,
}
use Rattle.exact.proofs.Booleans.{or_false, either}
use Rattle.exact.proofs.TableLaws.{row_failed}
use Rattle.arguments.proofs.NumberLaws.{all_good}
use Rattle.arguments.proofs.OrderLaws.{OneOfSix, one_of_six}
use Rattle.arguments.proofs.CountLaws.{values_count, pairs_after}

pub record Accepted (m : ℕ) (bytes : List ℕ) : Type 0 where
  pub here : present m ≡ true
  -- the bytes are whole arguments, for which the store has room
  pub whole : length bytes ≡ 8 * count_of bytes
  pub room : count_of bytes ≤ 257
  -- as many as the method asks
  pub six : m ≡ affine_projection_code → count_of bytes ≡ 6
  pub eight : m ≡ perspective_projection_code → count_of bytes ≡ 8
  pub three : (m ≡ barrel_code) ⊎ (m ≡ barrel_inverse_code) → 3 ≤ count_of bytes
  pub pairs : pair_method m ≡ true → (count_of bytes ≡ skip m + 4 * pairs_of m bytes)
      × ((1 ≤ pairs_of m bytes) × (pairs_of m bytes ≤ 64))
  pub enough : least_pairs m (order_of bytes) ≤ pairs_of m bytes
  -- each finite and within the limit, and a polynomial's order one of six
  pub numbers : (k : ℕ) → k < count_of bytes → good_number (argument_at bytes k) ≡ true
  pub order : m ≡ polynomial_code → OneOfSix (order_of bytes)

-- ---- what each test says by itself
eights : (n : ℕ) → n % 8 ≡ 0 → n ≡ 8 * (n / 8)
eights n e = omega arith

equal : (n c : ℕ) → not (eqb n c) ≡ false → n ≡ c
equal n c e = eqb-true n c (not-false (eqb n c) e)

counted : (s n : ℕ) → (s ≤ n) × (bad_values (n - s) ≡ false) → (n ≡ s + 4 * ((n - s) / 4))
    × ((1 ≤ (n - s) / 4) × ((n - s) / 4 ≤ 64))
counted s n h = let v = values_count (n - s) h.1 in (omega arith, v.1)

order_fits : (bytes : List ℕ) → T (fits binary64 (order_of bytes))
unfolding order_of
order_fits bytes =
    either (λ (x : Float). T (fits binary64 x)) (eqb (count_of bytes) 0) (of_bits-fits binary64 0)
    (of_bits-fits binary64 _)

-- a test of the method m, at the code k that m is
at : (m k : ℕ) (test : ℕ → Bool) → test m ≡ false → m ≡ k → test k ≡ false
at m k test e q = subst (λ (x : ℕ). test x ≡ false) q e

module _ (m : ℕ) (bytes : List ℕ) where
  -- from the tests one by one, for a table that has more rows than these
  pub accepted_tests : present m ≡ true → bad_count m bytes ≡ false → bad_argument bytes ≡ false
      → bad_order m bytes ≡ false
      → few_pairs m bytes ≡ false → Accepted m bytes
  unfolding bad_count bad_for bad_order pairs_of few_pairs
  accepted_tests here count number order few =
      let n = count_of bytes in
      let t = or_false (not (eqb (length bytes % 8) 0) || ltb 257 n) (bad_for m n) count in
      let s = or_false (not (eqb (length bytes % 8) 0)) (ltb 257 n) t.0 in
      let for : (k : ℕ) → m ≡ k → bad_for k n ≡ false = λ k. at m k (λ (x : ℕ). bad_for x n) t.1 in
      record {
        here = here;
        whole = eights (length bytes) (equal (length bytes % 8) 0 s.0);
        room = ltb-false 257 n s.1;
        six = λ e. equal n 6 (for affine_projection_code e);
        eight = λ e. equal n 8 (for perspective_projection_code e);
        three = ⊎_elim (λ e. ltb-false n 3 (for barrel_code e)) (λ e. ltb-false n 3 (for barrel_inverse_code e));
        pairs = λ e. counted (skip m) n (pairs_after m n e t.1);
        enough = ltb-false (pairs_of m bytes) (least_pairs m (order_of bytes)) few;
        numbers = all_good bytes number;
        order = λ e. one_of_six (order_of bytes) (order_fits bytes) (not-false (good_order (order_of bytes))
            (at m polynomial_code (λ (x : ℕ). eqb x polynomial_code && not (good_order (order_of bytes))) order e));
      }

  pub accepted : arguments_refusal m bytes ≡ 0 → Accepted m bytes
  unfolding arguments_refusal
  accepted e =
      let r3 = row_failed 2 (not (present m)) _ e in
      let r4 = row_failed 3 (bad_count m bytes) _ r3.1 in
      let r5 = row_failed 4 (bad_argument bytes) _ r4.1 in
      let r6 = row_failed 5 (bad_order m bytes) _ r5.1 in
      let r7 = row_failed 6 (few_pairs m bytes) _ r6.1 in
      accepted_tests (not-false (present m) r3.0) r4.0 r5.0 r6.0 r7.0
