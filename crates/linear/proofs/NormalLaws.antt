-- The laws of normal equations for whoever makes the rows: none yet, one row more, two rows more where they come in
-- twos, the end, and the solution. By the laws of counted loops. Assumes nothing.
use mathlib.Core.Path.{◌≡◌, sym, ap, ◌∙◌}
use mathlib.Core.Bool.{cond}
use Prim.Native.Nat.{ℕ, ◌+◌, ◌*◌, ◌/◌, ◌%◌, ◌≤◌}
use native.Mathlib.Nat.{le_antisymm}
use native.Mathlib.Omega.{arith}
use lib.Dec.{eqb}
use lib.Ieee.{Float}
use Rattle.exact.proofs.Loop.{up_to_none, up_to_next}
use Rattle.std.specs.Prelude.{Option}
use Rattle.exact.specs.Vector.{Vector}
use Rattle.linear.specs.Matrix.{System, zeros, zero_matrix}
use Rattle.linear.specs.Solve.{solved}
use Rattle.linear.specs.Normal.{add_row, normal, lstsq, in_turn}

module _ (row_of : ℕ → Vector) (y_of : ℕ → Float) (n : ℕ) where
  pub normal_none : (zero_matrix, zeros) ≡ normal row_of y_of n 0
  unfolding normal
  normal_none = up_to_none (λ (j : ℕ). add_row (row_of j) (y_of j) n) 0 (zero_matrix, zeros)

  pub normal_next : (j : ℕ) {s : System} → s ≡ normal row_of y_of n j
      → add_row (row_of j) (y_of j) n s ≡ normal row_of y_of n (j + 1)
  unfolding normal
  normal_next j e = up_to_next (λ (j : ℕ). add_row (row_of j) (y_of j) n) 0 (zero_matrix, zeros) j (omega arith) e

  -- where the loop ends
  pub normal_last : (j rows : ℕ) {s : System} → j ≤ rows → rows ≤ j → s ≡ normal row_of y_of n j
      → s ≡ normal row_of y_of n rows
  normal_last j rows a b e = e ∙ ap (normal row_of y_of n) (le_antisymm a b)

  pub normal_solved : (rows : ℕ) {s : System} {r : Option Vector} → s ≡ normal row_of y_of n rows → r ≡ solved n s
      → r ≡ lstsq row_of y_of n rows
  unfolding lstsq
  normal_solved rows e h = h ∙ ap (solved n) e

-- ---- rows that come in twos

module _ {A : Type 0} (f g : ℕ → A) (j : ℕ) where
  pub in_turn_first : in_turn f g (2 * j) ≡ f j
  unfolding in_turn
  in_turn_first = picked (2 * j % 2) (2 * j / 2) (omega arith) (omega arith)
    where
      picked : (r q : ℕ) → r ≡ 0 → q ≡ j → cond (eqb r 0) (f q) (g q) ≡ f j
      picked r q h e = ap (λ (k : ℕ). cond (eqb k 0) (f q) (g q)) h ∙ ap f e

  pub in_turn_second : in_turn f g (2 * j + 1) ≡ g j
  unfolding in_turn
  in_turn_second = picked ((2 * j + 1) % 2) ((2 * j + 1) / 2) (omega arith) (omega arith)
    where
      picked : (r q : ℕ) → r ≡ 1 → q ≡ j → cond (eqb r 0) (f q) (g q) ≡ g j
      picked r q h e = ap (λ (k : ℕ). cond (eqb k 0) (f q) (g q)) h ∙ ap g e

module _ (f g : ℕ → Vector) (y z : ℕ → Float) (n : ℕ) where
  pub normal_next_two : (j : ℕ) {s : System} → s ≡ normal (in_turn f g) (in_turn y z) n (2 * j)
      → add_row (g j) (z j) n (add_row (f j) (y j) n s) ≡ normal (in_turn f g) (in_turn y z) n (2 * (j + 1))
  normal_next_two j {s} e =
      ap (add_row (g j) (z j) n) (first s)
      ∙ second (add_row (in_turn f g (2 * j)) (in_turn y z (2 * j)) n s)
      ∙ normal_next (in_turn f g) (in_turn y z) n (2 * j + 1) (normal_next (in_turn f g) (in_turn y z) n (2 * j) e)
      ∙ ap (normal (in_turn f g) (in_turn y z) n) (two_more j)
    where
      two_more : (j : ℕ) → 2 * j + 1 + 1 ≡ 2 * (j + 1)
      two_more j = omega arith

      first : (s : System) → add_row (f j) (y j) n s ≡ add_row (in_turn f g (2 * j)) (in_turn y z (2 * j)) n s
      first s i = add_row (sym (in_turn_first f g j) i) (sym (in_turn_first y z j) i) n s

      second : (s : System) → add_row (g j) (z j) n s ≡ add_row (in_turn f g (2 * j + 1)) (in_turn y z (2 * j + 1)) n s
      second s i = add_row (sym (in_turn_second f g j) i) (sym (in_turn_second y z j) i) n s
