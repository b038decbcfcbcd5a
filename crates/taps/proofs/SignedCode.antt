-- A signed number that is handed on is read back from its bits, as the code's calls have it. Assumes nothing.
use mathlib.Core.Path.{◌≡◌, sym, ap, ◌∙◌, subst}
use Prim.Native.Nat.{ℕ, ◌^◌, ◌≤◌, ◌<◌}
use native.Mathlib.Omega.{arith}
use lib.IntN.{ℤ, pos, ◌+ℤ◌}
use lib.Signed.{mag}
use mir.Syntax.{w64}
use mir.Val.{SFits, of_z, to_z}
use mir.Facts.{to_z-of_z}

-- a call's result, as what it ensures
pub again : (z : ℤ) {y : ℤ} → mag z < 2 ^ 63 → z ≡ y → to_z w64 (of_z w64 z) ≡ y
again z f e = to_z-of_z {w = w64} (record { sfits = f }) ∙ e

-- in what the next call is asked
pub asked : (b : ℕ) (z : ℤ) {y : ℤ} → mag z < 2 ^ 63 → z ≡ y → mag y ≤ b → mag (to_z w64 (of_z w64 z)) ≤ b
asked b z f e h = subst (λ (v : ℤ). mag v ≤ b) (sym (again z f e)) h

-- a parameter
pub small : (b : ℕ) (v : ℤ) → SFits w64 v → mag v ≤ b → mag (to_z w64 (of_z w64 v)) ≤ b
small b v f h = subst (λ (z : ℤ). mag z ≤ b) (sym (to_z-of_z f)) h

-- a result that is a parameter moved on
pub moved_on : (r v : ℤ) (k : ℕ) → mag r < 2 ^ 63 → SFits w64 v → r ≡ to_z w64 (of_z w64 v) +ℤ pos k
    → to_z w64 (of_z w64 r) ≡ v +ℤ pos k
moved_on r v k g f e = again r g (e ∙ ap (λ (z : ℤ). z +ℤ pos k) (to_z-of_z f))

-- a column or a row of a cell, which is small
pub near_fits : (v : ℤ) → mag v ≤ 2147483649 → SFits w64 v
near_fits v h = record { sfits = go (mag v) h }
  where
    go : (n : ℕ) → n ≤ 2147483649 → n < 2 ^ 63
    go n h = omega arith
