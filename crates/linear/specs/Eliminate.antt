-- The elimination of `solve`, with the largest pivot of each column. Specification 5.1. Assumes nothing.
use Rattle.std.specs.Prelude.{ℕ, ◌+◌, cond, List, [], get_or, set, Option, Some, None, ⊤, Float}
use Rattle.std.specs.Float.{nan}
use Rattle.std.specs.Float.Ieee.{lt}
use Rattle.exact.specs.Double.{◌⊖◌, ◌⊗◌, ◌⊘◌, least_divisor}
use Rattle.exact.specs.Loop.{up_to}
use Rattle.number.specs.Magnitude.{abs, reaching}
use Rattle.exact.specs.Vector.{at}
use Rattle.linear.specs.Matrix.{Matrix, System, entry, put}

-- ---- the pivot: the row of the largest magnitude in the column, from row `col` on, the last among equals, a NaN above
-- all

unfoldable pub better : Matrix → ℕ → ℕ → ℕ → ℕ
better a col row best = cond (reaching (entry a best col) (entry a row col)) row best

abbrev pub pivot : Matrix → ℕ → ℕ → ℕ
pivot a col n = up_to (better a col) (col + 1) n col

-- ---- rows changed for one another, and a multiple of the pivot's row taken from each below

abbrev pub swapped : {A : Type 0} → A → ℕ → ℕ → List A → List A
swapped d i j l = set (set l i (get_or l j d)) j (get_or l i d)

abbrev pub swap : ℕ → ℕ → System → System
swap i j s = (swapped [] i j s.0, swapped nan i j s.1)

-- a[row][k] -= f * a[col][k]
unfoldable pub take_term : Float → ℕ → ℕ → ℕ → Matrix → Matrix
take_term f col row k a = put a row k (entry a row k ⊖ f ⊗ entry a col k)

-- f = a[row][col] / a[col][col]
abbrev pub multiple : Matrix → ℕ → ℕ → Float
multiple a col row = entry a row col ⊘ entry a col col

unfoldable pub clear_row : ℕ → ℕ → ℕ → System → System
clear_row n col row s = (
  up_to (take_term (multiple s.0 col row) col row) col n s.0,
  set s.1 row (at s.1 row ⊖ multiple s.0 col row ⊗ at s.1 col),
)

abbrev pub clear_below : ℕ → ℕ → System → System
clear_below n col s = up_to (clear_row n col) (col + 1) n s

-- ---- a column, and all of them: none where a pivot is too small. One that is a NaN passes.

unfoldable pub column : ℕ → ℕ → System → Option System
column n col s =
    cond (lt (abs (entry s.0 (pivot s.0 col n) col)) least_divisor)
    None
    (Some (clear_below n col (swap col (pivot s.0 col n) s)))

unfoldable pub column_or : ℕ → ℕ → Option System → Option System
column_or n col None = None
column_or n col (Some s) = column n col s

abbrev pub eliminated : ℕ → System → Option System
eliminated n s = up_to (column_or n) 0 n (Some s)

-- what the code answers, with the equations as it leaves them
unfoldable pub outcome : Option ⊤ → System → Option System
outcome (Some _) s = Some s
outcome None s = None
