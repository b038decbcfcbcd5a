-- `solve`: elimination, then substitution from the last row up. Specification 5.1. Assumes nothing.
use Rattle.std.specs.Prelude.{ℕ, ◌+◌, set, Option, option_map, Float}
use Rattle.exact.specs.Double.{◌⊕◌, ◌⊖◌, ◌⊗◌, ◌⊘◌}
use Rattle.exact.specs.Loop.{up_to, down_to}
use Rattle.exact.specs.Vector.{Vector, at}
use Rattle.linear.specs.Matrix.{Matrix, System, entry, nought, zeros}
use Rattle.linear.specs.Eliminate.{eliminated}

-- ---- substitution: x[i] = (b[i] - sum of a[i][k] * x[k] for k above i) / a[i][i]

unfoldable pub add_known : Matrix → Vector → ℕ → ℕ → Float → Float
add_known a x i k sum = sum ⊕ entry a i k ⊗ at x k

abbrev pub known : ℕ → Matrix → Vector → ℕ → Float
known n a x i = up_to (add_known a x i) (i + 1) n nought

unfoldable pub substitute : ℕ → System → ℕ → Vector → Vector
substitute n s i x = set x i ((at s.1 i ⊖ known n s.0 x i) ⊘ entry s.0 i i)

abbrev pub substituted : ℕ → System → Vector
substituted n s = down_to (substitute n s) 0 n zeros

-- ---- the whole: n unknowns, and zeros past them; none where there is no solution

unfoldable pub solved : ℕ → System → Option Vector
solved n s = option_map (substituted n) (eliminated n s)
