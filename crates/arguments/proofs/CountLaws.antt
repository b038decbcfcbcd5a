-- Where refusal 4 does not apply, the number of arguments is what the method asks. A method is one of a few codes, and
-- at a code the definition computes to that method's test. Assumes nothing.
use mathlib.Core.Path.{◌≡◌, sym, ap, ◌∙◌, subst}
use mathlib.Core.Logic.{⊎_elim}
use mathlib.Core.Bool.{Bool, true, false, not, ◌||◌, false≢true}
use Prim.Native.Nat.{ℕ, ◌-◌, ◌*◌, ◌/◌, ◌%◌, ◌≤◌}
use native.Mathlib.Omega.{arith}
use lib.Dec.{eqb, ltb}
use borrow.Author.Tests.{ltb-false, eqb-true, eqb-false, not-false}
use Rattle.exact.proofs.Booleans.{or_false, one_of}
use Rattle.arguments.specs.Method.{pair_method, skip}
use Rattle.arguments.specs.Refusal.{bad_values, bad_for}

-- ---- the values of a pair method
pub values_count : (n : ℕ) → bad_values n ≡ false → (n ≡ 4 * (n / 4)) × ((1 ≤ n / 4) × (n / 4 ≤ 64))
unfolding bad_values
values_count n e =
    let s = or_false (ltb n 4 || not (eqb (n % 4) 0)) (ltb 64 (n / 4)) e in
    let t = or_false (ltb n 4) (not (eqb (n % 4) 0)) s.0 in
    whole n (ltb-false n 4 t.0) (eqb-true (n % 4) 0 (not-false (eqb (n % 4) 0) t.1)) (ltb-false 64 (n / 4) s.1)
  where
    whole : (n : ℕ) → 4 ≤ n → n % 4 ≡ 0 → n / 4 ≤ 64 → (n ≡ 4 * (n / 4)) × ((1 ≤ n / 4) × (n / 4 ≤ 64))
    whole n a b c = omega arith

-- ---- by method
-- what is left after the order, which there is
abbrev After : ℕ → ℕ → Type 0
After m n = bad_for m n ≡ false → (skip m ≤ n) × (bad_values (n - skip m) ≡ false)

plain : (n : ℕ) → bad_values n ≡ false → (0 ≤ n) × (bad_values (n - 0) ≡ false)
plain n e = (omega arith, ap bad_values (none n) ∙ e)
  where
    none : (n : ℕ) → n - 0 ≡ n
    none n = omega arith

ordered : (n : ℕ) → (eqb n 0 || bad_values (n - 1)) ≡ false → (1 ≤ n) × (bad_values (n - 1) ≡ false)
ordered n e = let t = or_false (eqb n 0) (bad_values (n - 1)) e in (some n (eqb-false n 0 t.0), t.1)
  where
    some : (n : ℕ) → (n ≡ 0 → ⊥) → 1 ≤ n
    some n h = omega arith

-- one more code that the method may be
or_at : (m n : ℕ) (b : Bool) (k : ℕ) → (b ≡ true → After m n) → After k n → (b || eqb m k) ≡ true → After m n
or_at m n b k f p e = ⊎_elim f (λ q. subst (λ (x : ℕ). After x n) (sym (eqb-true m k q)) p) (one_of b (eqb m k) e)

pub pairs_after : (m n : ℕ) → pair_method m ≡ true → After m n
unfolding pair_method bad_for skip
pairs_after m n =
    or_at m n (eqb m 0 || eqb m 3 || eqb m 5 || eqb m 6 || eqb m 7) 13
    (or_at m n (eqb m 0 || eqb m 3 || eqb m 5 || eqb m 6) 7
    (or_at m n (eqb m 0 || eqb m 3 || eqb m 5) 6
    (or_at m n (eqb m 0 || eqb m 3) 5
    (or_at m n (eqb m 0) 3 (or_at m n false 0 (λ e. absurd (false≢true e)) (plain n)) (plain n))
    (plain n))
    (plain n))
    (ordered n))
    (plain n)
