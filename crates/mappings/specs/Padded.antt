-- A list with zeros after it, as an array holds one that is shorter than itself. Assumes nothing.
use Rattle.std.specs.Prelude.{ℕ, ◌-◌, ◌++◌, length, replicate}
use Rattle.exact.specs.Vector.{Vector}
use Rattle.linear.specs.Matrix.{nought}

-- xs in an array of n
abbrev pub padded : ℕ → Vector → Vector
padded n xs = xs ++ replicate (n - length xs) nought
