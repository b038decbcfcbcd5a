-- What the two barrel methods are fitted to: A, B, C, D, the centre and the norm. Specification 5.2. Assumes nothing.
use Rattle.std.specs.Prelude.{ℕ, cond, [], ◌∷◌, nat_lt, Float}
use Rattle.exact.specs.Double.{◌⊕◌, ◌⊖◌, ◌⊘◌, two, one}
use Rattle.number.specs.Magnitude.{fmin}
use Rattle.mappings.specs.declared.mapping.Kind.{Kind}
use Rattle.mappings.specs.Mapping.{Fitted, mapping, fitted}
use Rattle.exact.specs.Vector.{Vector, at}

-- args.get(k).copied().unwrap_or(other)
unfoldable pub given_or : Vector → ℕ → ℕ → Float → Float
given_or values count k other = cond (nat_lt k count) (at values k) other

abbrev pub distorted : Vector → ℕ → Float → Float → Vector
distorted values count w h =
    at values 0
    ∷ at values 1
    ∷ at values 2
    ∷ given_or values count 3 (one ⊖ (at values 0 ⊕ at values 1 ⊕ at values 2))
    ∷ given_or values count 4 (w ⊘ two)
    ∷ given_or values count 5 (h ⊘ two)
    ∷ (fmin w h ⊘ two)
    ∷ []

unfoldable pub fit_barrel : Vector → ℕ → Float → Float → Kind → Fitted
fit_barrel values count w h kind = fitted (mapping kind 0 (distorted values count w h))
