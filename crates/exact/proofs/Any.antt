-- A loop that asks whether some number below n is one of a kind: it answers false just where each is none, since no
-- turn takes a true back. Assumes nothing.
use mathlib.Core.Path.{◌≡◌, refl, sym, ap, ◌∙◌}
use mathlib.Core.Bool.{Bool, true, false, ◌||◌, true≢false}
use Prim.Native.Nat.{ℕ, ◌+◌, ◌<◌, zero-le}
use native.Mathlib.Omega.{arith}
use Rattle.exact.specs.Loop.{up_to}
use Rattle.exact.proofs.Booleans.{or_true, both_false}
use Rattle.exact.proofs.Loop.{up_to_next, up_to_keep, up_to_join}

module _ (f : ℕ → Bool) where
  pub each_none : (n : ℕ) → ((k : ℕ) → k < n → f k ≡ false) → up_to (λ (k : ℕ) (t : Bool). t || f k) 0 n false ≡ false
  each_none n h = up_to_keep (λ (k : ℕ) (t : Bool). t || f k) 0 false (λ (t : Bool). t ≡ false) n zero-le
      (λ j t a b p. both_false t (f j) p (h j b)) refl

  spoilt : (k n : ℕ) → k < n → f k ≡ true → up_to (λ (k : ℕ) (t : Bool). t || f k) 0 n false ≡ true
  spoilt k n h bad =
      up_to_join (λ (k : ℕ) (t : Bool). t || f k) 0 false (k + 1) n zero-le (omega arith)
      ∙ up_to_keep (λ (k : ℕ) (t : Bool). t || f k) (k + 1) (up_to (λ (k : ℕ) (t : Bool). t || f k) 0 (k + 1) false)
      (λ (t : Bool). t ≡ true) n (omega arith)
      (λ j t a b p. ap (λ (t : Bool). t || f j) p)
      (sym (up_to_next (λ (k : ℕ) (t : Bool). t || f k) 0 false k zero-le refl)
      ∙ ap (λ (t : Bool). up_to (λ (k : ℕ) (t : Bool). t || f k) 0 k false || t) bad
      ∙ or_true (up_to (λ (k : ℕ) (t : Bool). t || f k) 0 k false))

  pub none_each : (n : ℕ) → up_to (λ (k : ℕ) (t : Bool). t || f k) 0 n false ≡ false → (k : ℕ) → k < n → f k ≡ false
  none_each n fine k h = go (f k) refl
    where
      go : (g : Bool) → f k ≡ g → g ≡ false
      go true e = absurd (true≢false (sym (spoilt k n h e) ∙ fine))
      go false e = refl
