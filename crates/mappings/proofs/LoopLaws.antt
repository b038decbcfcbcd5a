-- Two counted loops in step: what relates them after a turn, with the turn's number, relates them at the end. By
-- recursion on the turns. Assumes nothing.
use mathlib.Core.Path.{◌≡◌, subst}
use Prim.Native.Nat.{ℕ, zero, suc, ◌+◌, ◌-◌, ◌≤◌, ◌<◌}
use native.Mathlib.Omega.{arith}
use Rattle.exact.specs.Loop.{turns, up_to}

module _ {A B : Type 0} (f : ℕ → A → A) (g : ℕ → B → B) (R : ℕ → A → B → Type 0) (lo : ℕ) (a : A) (b : B) where
  turns_both : (n : ℕ) → ((j : ℕ) (x : A) (y : B) → lo ≤ j → j < lo + n → R j x y → R (j + 1) (f j x) (g j y))
      → R lo a b → R (lo + n) (turns f lo n a) (turns g lo n b)
  unfolding turns
  turns_both zero h r = subst (λ (k : ℕ). R k a b) (back lo) r
    where
      back : (k : ℕ) → k ≡ k + 0
      back k = omega arith
  turns_both (suc n) h r =
      subst (λ (k : ℕ). R k (f (lo + n) (turns f lo n a)) (g (lo + n) (turns g lo n b))) (next lo n)
      (h (lo + n) _ _ (omega arith) (omega arith) (turns_both n (λ j x y p q. h j x y p (omega arith)) r))
    where
      next : (k n : ℕ) → k + n + 1 ≡ k + suc n
      next k n = omega arith

  pub up_to_both : (hi : ℕ) → lo ≤ hi
      → ((j : ℕ) (x : A) (y : B) → lo ≤ j → j < hi → R j x y → R (j + 1) (f j x) (g j y)) → R lo a b
      → R hi (up_to f lo hi a) (up_to g lo hi b)
  unfolding up_to
  up_to_both hi le h r =
      subst (λ (k : ℕ). R k (turns f lo (hi - lo) a) (turns g lo (hi - lo) b)) (whole le)
      (turns_both (hi - lo) (λ j x y p q. h j x y p (omega arith)) r)
    where
      whole : lo ≤ hi → lo + (hi - lo) ≡ hi
      whole le = omega arith
