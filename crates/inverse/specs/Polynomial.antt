-- Polynomial: the n monomials, each times its coefficient, summed in order from +0. The n coefficients of u stand
-- first, then those of v. Specification 7. Assumes nothing.
use Rattle.std.specs.Prelude.{ℕ, zero, suc, ◌+◌, length, Float}
use Rattle.exact.specs.Double.{◌⊗◌}
use Rattle.exact.specs.Sums.{summed}
use Rattle.exact.specs.Vector.{Vector, at}
use Rattle.linear.specs.Matrix.{nought}
use Rattle.mappings.specs.Monomials.{monomials}
use Rattle.point.specs.declared.point.Point.{Point}
use Rattle.point.specs.Point.{point}

-- the sum of mono[k] * c[k] for the first n k
abbrev pub dot : Vector → (ℕ → Float) → ℕ → Float
dot mono c n = summed nought (λ (k : ℕ). at mono k ⊗ c k) n

-- the coefficients of u, and those of v
abbrev pub of_u : Vector → ℕ → Float
of_u coef k = at coef k

abbrev pub of_v : Vector → ℕ → ℕ → Float
of_v coef n k = at coef (n + k)

abbrev pub dots : Vector → Vector → ℕ → Point
dots mono coef n = point (dot mono (of_u coef) n) (dot mono (of_v coef n) n)

unfoldable pub polynomial : ℕ → Vector → Float → Float → Point
polynomial order coef x y = dots (monomials order x y) coef (length (monomials order x y))

-- how many monomials there are, as the code counts them: 4 for the terms 1, x, y, xy, else (d + 1) (d + 2) / 2
unfoldable pub terms : ℕ → ℕ
terms zero = 4
terms (suc zero) = 3
terms (suc (suc zero)) = 6
terms (suc (suc (suc zero))) = 10
terms (suc (suc (suc (suc zero)))) = 15
terms (suc (suc (suc (suc (suc n))))) = 21
