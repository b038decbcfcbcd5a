-- Normal equations, row by row from zeros, and `lstsq`: their solution. A caller gives a row of numbers and a
-- right-hand side for each number below `rows`. Specification 5.1. Assumes nothing.
use Rattle.std.specs.Prelude.{ℕ, ◌/◌, ◌%◌, cond, eqb, set, Option, Float}
use Rattle.exact.specs.Double.{◌⊕◌, ◌⊗◌}
use Rattle.exact.specs.Loop.{up_to}
use Rattle.exact.specs.Vector.{Vector, at}
use Rattle.linear.specs.Matrix.{Matrix, System, entry, put, zeros, zero_matrix}
use Rattle.linear.specs.Solve.{solved}

-- the first factor of each product that row i of the equations takes from a row
abbrev pub row_factor : Vector → ℕ → Float
row_factor row i = at row i

-- a[i][k] += first * row[k]
unfoldable pub add_product : Vector → Float → ℕ → ℕ → Matrix → Matrix
add_product row first i k a = put a i k (entry a i k ⊕ first ⊗ at row k)

-- b[i] += row[i] * y, and a[i][k] += row[i] * row[k] for each k
unfoldable pub add_term : Vector → Float → ℕ → ℕ → System → System
add_term row y n i s =
    (up_to (add_product row (row_factor row i) i) 0 n s.0, set s.1 i (at s.1 i ⊕ row_factor row i ⊗ y))

abbrev pub add_row : Vector → Float → ℕ → System → System
add_row row y n s = up_to (add_term row y n) 0 n s

-- the equations after some rows, row j being `row_of j` with the right-hand side `y_of j`
unfoldable pub normal : (ℕ → Vector) → (ℕ → Float) → ℕ → ℕ → System
normal row_of y_of n rows = up_to (λ (j : ℕ). add_row (row_of j) (y_of j) n) 0 rows (zero_matrix, zeros)

-- n unknowns from so many rows
unfoldable pub lstsq : (ℕ → Vector) → (ℕ → Float) → ℕ → ℕ → Option Vector
unfolding normal
lstsq row_of y_of n rows = solved n (normal row_of y_of n rows)

-- rows that come in twos: f 0, g 0, f 1, g 1, ..
unfoldable pub in_turn : {A : Type 0} → (ℕ → A) → (ℕ → A) → ℕ → A
in_turn f g j = cond (eqb (j % 2) 0) (f (j / 2)) (g (j / 2))
