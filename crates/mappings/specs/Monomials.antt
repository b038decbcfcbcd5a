-- `monomials`: the terms of a polynomial at (x, y), in the Rust's order. The order is a number: 0 for the terms 1, x,
-- y, xy, and else the degree, where one above 5 counts as 5. Specification 5.2. Assumes nothing.
use Rattle.std.specs.Prelude.{ℕ, ◌+◌, ◌-◌, min, cond, List, [], ◌∷◌, ◌++◌, get_or, set, eqb, Float}
use Rattle.exact.specs.Double.{◌⊗◌, one}
use Rattle.exact.specs.Loop.{up_to}
use Rattle.exact.specs.Power.{power}
use Rattle.exact.specs.Vector.{Vector, at}

-- x.powi(total - j) * y.powi(j)
abbrev pub term : Float → Float → ℕ → ℕ → Float
term x y total j = power x (total - j) ⊗ power y j

-- out.push(..)
unfoldable pub push : Float → Float → ℕ → ℕ → Vector → Vector
push x y total j out = out ++ (term x y total j ∷ [])

-- for j in 0..=total
unfoldable pub of_degree : Float → Float → ℕ → Vector → Vector
unfolding push
of_degree x y total out = up_to (push x y total) 0 (total + 1) out

-- for total in 0..=n
abbrev pub up_to_degree : ℕ → Float → Float → Vector
up_to_degree n x y = up_to (of_degree x y) 0 (n + 1) []

unfoldable pub monomials : ℕ → Float → Float → Vector
monomials order x y = cond (eqb order 0) (one ∷ x ∷ y ∷ (x ⊗ y) ∷ []) (up_to_degree (min order 5) x y)

-- ---- the same by their exponents of x and y, for the degrees 1 to 5: (degree + 1) (degree + 2) / 2 of them

abbrev pub exponents : List (ℕ × ℕ)
exponents =
    (0, 0) ∷
    (1, 0) ∷ (0, 1) ∷
    (2, 0) ∷ (1, 1) ∷ (0, 2) ∷
    (3, 0) ∷ (2, 1) ∷ (1, 2) ∷ (0, 3) ∷
    (4, 0) ∷ (3, 1) ∷ (2, 2) ∷ (1, 3) ∷ (0, 4) ∷
    (5, 0) ∷ (4, 1) ∷ (3, 2) ∷ (2, 3) ∷ (1, 4) ∷ (0, 5) ∷ []

abbrev pub monomial : Float → Float → ℕ × ℕ → Float
monomial x y e = power x e.0 ⊗ power y e.1

-- the monomial numbered k, which has the same number in every degree that has it
abbrev pub monomial_at : Float → Float → ℕ → Float
monomial_at x y k = monomial x y (get_or exponents k (0, 0))

-- ---- what the code does to the array that holds them

-- the powers 0 to 5
abbrev pub powers : Float → Vector
powers x = power x 0 ∷ power x 1 ∷ power x 2 ∷ power x 3 ∷ power x 4 ∷ power x 5 ∷ []

unfoldable pub store_term : Vector → Vector → ℕ → ℕ → ℕ → Vector → Vector
store_term px py start total j m = set m (start + j) (at px (total - j) ⊗ at py j)
