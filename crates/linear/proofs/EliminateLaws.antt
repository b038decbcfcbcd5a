-- The laws of elimination's definitions: a pivot is a row among the n, by the two cases of each test; and from what the
-- code answers at a column to the definition's step. Assumes nothing.
use mathlib.Core.Path.{◌≡◌, refl, sym, subst}
use mathlib.Core.Bool.{Bool, true, false, cond}
use Rattle.std.specs.Prelude.{Some, None, ⊤}
use Prim.Native.Nat.{ℕ, ◌+◌, ◌<◌}
use native.Mathlib.Omega.{arith}
use Rattle.exact.proofs.Loop.{up_to_keep}
use Rattle.number.specs.Magnitude.{reaching}
use Rattle.linear.specs.Matrix.{Matrix, System, entry}
use Rattle.linear.specs.Eliminate.{better, pivot, outcome, column, column_or}

either_below : (t : Bool) (row best n : ℕ) → row < n → best < n → cond t row best < n
either_below true row best n r b = r
either_below false row best n r b = b

pub better_below : (a : Matrix) (col row best n : ℕ) → row < n → best < n → better a col row best < n
unfolding better
better_below a col row best n r b = either_below (reaching (entry a best col) (entry a row col)) row best n r b

pub pivot_below : (a : Matrix) (col n : ℕ) → col < n → pivot a col n < n
pivot_below a col n h =
    up_to_keep (better a col) (col + 1) col (λ (k : ℕ). k < n) n (omega arith)
    (λ j y lo hi b. better_below a col j y n hi b) h

pub pivot_row : {n p : ℕ} (a : Matrix) (col : ℕ) → p ≡ pivot a col n → col < n → p < n
pivot_row {n} a col e h = subst (λ (k : ℕ). k < n) (sym e) (pivot_below a col n h)

-- ---- from what the code answers to the definitions

module _ (n col : ℕ) (s t : System) where
  -- a column that gives no equations, and each after it
  pub step_stopped : outcome None t ≡ column n col s → None ≡ column_or n col (Some s)
  unfolding outcome column_or
  step_stopped e = e

  pub step_done : {u : ⊤} → outcome (Some u) t ≡ column n col s → Some t ≡ column_or n col (Some s)
  unfolding outcome column_or
  step_done e = e

pub stopped_stays : (n j : ℕ) → column_or n j None ≡ None
unfolding column_or
stopped_stays n j = refl
