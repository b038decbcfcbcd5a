-- Four names below 4 find their columns free, one after another, where they are an order and only there, and each
-- column then gives its name back: a test over the 256 fours of numbers below 4, which is computed. Assumes nothing.
use mathlib.Core.Path.{◌≡◌, refl, sym, subst}
use mathlib.Core.Logic.{inl, inr}
use mathlib.Core.Bool.{Bool, true, false, not, ◌&&◌, ◌||◌}
use Prim.Native.Nat.{ℕ, zero, suc, ◌≤◌, ◌<◌}
use native.Mathlib.Nat.{eq-or-lt_of_le}
use native.Mathlib.Omega.{arith}
use Rattle.std.specs.Prelude.{Option, Some, None, is_none}
use lib.Dec.{T, eqb, ltb, eqb→eq, ltb→lt}
use Rattle.exact.proofs.Booleans.{both_pass}
use Rattle.listing.specs.Names.{no_names, column_of, name_at, slot_of}
use Rattle.listing.specs.Text.{Order, all_names, all_unlike, is_order}
use Rattle.listing.proofs.NamesLaws.{named}
use Rattle.listing.proofs.OrderLaws.{names1, names2, names3, names_of, Fine, is_free, is_back}

-- ---- f of each number below n

below : ℕ → (ℕ → Bool) → Bool
below zero f = true
below (suc n) f = f n && below n f

implied : (a b : Bool) → T (not a || b) → T a → T b
implied false b h k = elim k [ ]
implied true b h k = h

at_most : (k n : ℕ) → k < suc n → k ≤ n
at_most k n l = omega (arith, l)

at_below : (n : ℕ) (f : ℕ → Bool) → T (below n f) → (k : ℕ) → k < n → T (f k)
unfolding below
at_below zero f h k l = elim l [ ]
at_below (suc n) f h k l = elim (eq-or-lt_of_le (at_most k n l)) [
  | inl e ↦ subst (λ (j : ℕ). T (f j)) (sym e) (both_pass (f n) (below n f) h).0
  | inr g ↦ at_below n f (both_pass (f n) (below n f) h).1 k g
]

none : (o : Option ℕ) → T (is_none o) → o ≡ None
none None h = refl
none (Some k) h = elim h [ ]

nothing : (o : Option ℕ) → o ≡ None → T (is_none o)
nothing o e = rw e tt

abbrev four : ℕ → ℕ → ℕ → ℕ → Order
four a b c d = record { col0 = a; col1 = b; col2 = c; col3 = d }

test : ℕ → ℕ → ℕ → ℕ → Bool
unfolding is_order
test a b c d = not (is_order (four a b c d)) || (is_free (four a b c d) && is_back (four a b c d))

tested : T (below 4 (λ (a : ℕ). below 4 (λ (b : ℕ). below 4 (λ (c : ℕ). below 4 (λ (d : ℕ). test a b c d)))))
unfolding below test is_order name_at slot_of
tested = tt

parts : (a b c d : Bool) → T (a && (b && (c && d))) → T a × (T b × (T c × T d))
parts false b c d t = elim t [ ]
parts true b c d t =
    let q = both_pass b (c && d) t in
    (tt, (q.0, both_pass c d q.1))

pub fine : (o : Order) → T (is_order o) → Fine o
unfolding test is_order
fine o h =
    let l = parts (ltb o.col0 4) (ltb o.col1 4) (ltb o.col2 4) (ltb o.col3 4)
    (both_pass (all_names o) (all_unlike o) h).0 in
    let l0 = ltb→lt o.col0 4 l.0 in
    let l1 = ltb→lt o.col1 4 l.1.0 in
    let l2 = ltb→lt o.col2 4 l.1.1.0 in
    let l3 = ltb→lt o.col3 4 l.1.1.1 in
    let t = at_below 4 _ (at_below 4 _ (at_below 4 _ (at_below 4 _ tested o.col0 l0) o.col1 l1) o.col2 l2)
    o.col3 l3 in
    let b = both_pass (is_free o) (is_back o) (implied (is_order o) (is_free o && is_back o) t h) in
    let f =
    parts (is_none (column_of no_names (named o.col0))) (is_none (column_of (names1 o) (named o.col1)))
    (is_none (column_of (names2 o) (named o.col2)))
    (is_none (column_of (names3 o) (named o.col3)))
    b.0
    in
    let s =
    parts (eqb (slot_of (names_of o) 0) o.col0) (eqb (slot_of (names_of o) 1) o.col1)
    (eqb (slot_of (names_of o) 2) o.col2)
    (eqb (slot_of (names_of o) 3) o.col3)
    b.1
    in
    record {
      free0 = none _ f.0;
      free1 = none _ f.1.0;
      free2 = none _ f.1.1.0;
      free3 = none _ f.1.1.1;
      slot0 = eqb→eq _ _ s.0;
      slot1 = eqb→eq _ _ s.1.0;
      slot2 = eqb→eq _ _ s.1.1.0;
      slot3 = eqb→eq _ _ s.1.1.1;
      low0 = l0;
      low1 = l1;
      low2 = l2;
      low3 = l3;
    }

-- the other way: names that find their columns free, one after another, are an order
test_free : ℕ → ℕ → ℕ → ℕ → Bool
unfolding is_order
test_free a b c d = not (is_free (four a b c d)) || is_order (four a b c d)

tested_free : T (below 4 (λ (a : ℕ). below 4 (λ (b : ℕ). below 4 (λ (c : ℕ). below 4 (λ (d : ℕ). test_free a b c d)))))
unfolding below test_free is_order
tested_free = tt

joined : (a b c d : Bool) → T a → T b → T c → T d → T (a && (b && (c && d)))
joined false b c d p q r s = elim p [ ]
joined true false c d p q r s = elim q [ ]
joined true true false d p q r s = elim r [ ]
joined true true true d p q r s = s

pub free_order : (o : Order) → o.col0 < 4 → o.col1 < 4 → o.col2 < 4 → o.col3 < 4 → column_of no_names (named o.col0) ≡ None
    → column_of (names1 o) (named o.col1) ≡ None → column_of (names2 o) (named o.col2) ≡ None → column_of (names3 o) (named o.col3) ≡ None
    → T (is_order o)
unfolding test_free
free_order o l0 l1 l2 l3 e0 e1 e2 e3 =
    let t = at_below 4 _ (at_below 4 _ (at_below 4 _ (at_below 4 _ tested_free o.col0 l0) o.col1 l1) o.col2
    l2) o.col3 l3 in
    implied (is_free o) (is_order o) t
    (joined (is_none (column_of no_names (named o.col0))) (is_none (column_of (names1 o) (named o.col1)))
    (is_none (column_of (names2 o) (named o.col2)))
    (is_none (column_of (names3 o) (named o.col3)))
    (nothing _ e0)
    (nothing _ e1)
    (nothing _ e2)
    (nothing _ e3))
