-- Matrices as the code holds them: lists with room for 21 unknowns, a matrix as the list of its rows. Past its end a
-- list reads as a NaN; no definition reads there. Assumes nothing.
use Rattle.std.specs.Prelude.{ℕ, List, [], get_or, set, replicate, Float}
pub use Rattle.exact.specs.Double.{nought}
use Rattle.exact.specs.Vector.{Vector, at}

abbrev pub Matrix : Type 0
Matrix = List Vector

-- the equations a · x = b
abbrev pub System : Type 0
System = Matrix × Vector

-- a[i]
abbrev pub row_at : Matrix → ℕ → Vector
row_at a i = get_or a i []

-- a[i][k]
abbrev pub entry : Matrix → ℕ → ℕ → Float
entry a i k = at (row_at a i) k

-- a[i][k] = x
abbrev pub put : Matrix → ℕ → ℕ → Float → Matrix
put a i k x = set a i (set (row_at a i) k x)

abbrev pub zeros : Vector
zeros = replicate 21 nought

abbrev pub zero_matrix : Matrix
zero_matrix = replicate 21 zeros
