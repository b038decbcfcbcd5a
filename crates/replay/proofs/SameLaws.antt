-- Two lists are the same where a comparison from the front says so: both tests decide that they are equal. Assumes
-- nothing.
use mathlib.Core.Path.{◌≡◌, refl, sym, subst}
use mathlib.Core.Logic.{inl, inr}
use mathlib.Core.Bool.{Bool, true, false, ◌&&◌, true≢false}
use mathlib.Core.List.{List}
use Prim.Native.Nat.{ℕ, zero, suc, ◌+◌, ◌-◌, ◌<◌, ◌≤◌}
use native.Mathlib.Nat.{eq-or-lt_of_le}
use native.Mathlib.Omega.{arith}
use borrow.Author.Tests.{eq-eqb, eqb-true}
use lib.Dec.{eqb}
use lib.ListN.{length, get_or}
use Rattle.std.proofs.lemmas.Grind.{same_number_lists}
use Rattle.std.proofs.lemmas.Slice.Eq.{bytes_eq-Decides}
use Rattle.std.specs.Bool.{Decides}
use Rattle.std.specs.Str.{bytes_eq}
use Rattle.exact.specs.Loop.{turns, up_to}
use Rattle.replay.specs.Same.{still, same}

both : (a b : Bool) → (a && b) ≡ true → (a ≡ true) × (b ≡ true)
both true b e = (refl, e)
both false b e = absurd (true≢false (sym e))

module _ (a b : List ℕ) where
  each : (n : ℕ) → turns (still a b) 0 n true ≡ true → (k : ℕ) → k < n → get_or a k 0 ≡ get_or b k 0
  unfolding turns still
  each zero e k l = absurd (omega (arith, l))
  each (suc n) e k l =
      let s = both (turns (still a b) 0 n true) (eqb (get_or a (0 + n) 0) (get_or b (0 + n) 0)) e in
      elim (eq-or-lt_of_le (let m : k ≤ n = omega arith in m)) [
        | inl i ↦ subst (λ (j : ℕ). get_or a j 0 ≡ get_or b j 0) (let j : 0 + n ≡ k = omega arith in j) (eqb-true _ _ s.1)
        | inr m ↦ each n s.0 k m
      ]

whole : (a : List ℕ) (n : ℕ) → turns (still a a) 0 n true ≡ true
unfolding turns still
whole a zero = refl
whole a (suc n) = rw (whole a n) (eq-eqb (get_or a (0 + n) 0) (get_or a (0 + n) 0) refl)

no_less : (n : ℕ) → n - 0 ≡ n
no_less n = omega arith

same_Decides : (a b : List ℕ) → Decides (same a b) (a ≡ b)
unfolding same up_to
same_Decides a b = (
  λ e. let s = both (eqb (length a) (length b)) (turns (still a b) 0 (length a - 0) true) e in
      same_number_lists a b (eqb-true _ _ s.0) (each a b (length a) (rw (no_less (length a)) at s.1)),
  λ e. subst (λ (c : List ℕ). (eqb (length a) (length c) && turns (still a c) 0 (length a - 0) true) ≡ true) e
      (rw (eq-eqb (length a) (length a) refl) (whole a (length a - 0))),
)

alike : {P : Type 0} (p q : Bool) → Decides p P → Decides q P → p ≡ q
alike true true d e = refl
alike true false d e = sym (e.1 (d.0 refl))
alike false true d e = d.1 (e.0 refl)
alike false false d e = refl

pub same_bytes : (a b : List ℕ) → bytes_eq a b ≡ same a b
same_bytes a b = alike (bytes_eq a b) (same a b) (bytes_eq-Decides a b) (same_Decides a b)
