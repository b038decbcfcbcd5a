-- A table of refusals: tests in order, each with the number that it gives. The answer is the number of the first test
-- that holds, and 0 where none does. Specification 2. Assumes nothing.
use Rattle.std.specs.Prelude.{ℕ, Bool, cond, List, [], ◌∷◌}

unfoldable pub first_of : List (ℕ × Bool) → ℕ
first_of [] = 0
first_of (row ∷ rows) = cond row.1 row.0 (first_of rows)
