-- `lstsq` over the pairs of the store: one row a pair, two rows a pair, and the same terms fitted to two sides.
-- Specification 5.1. Assumes nothing.
use Rattle.std.specs.Prelude.{ℕ, ◌*◌, ◌++◌, take, Option, Some, None, Float}
use Rattle.mappings.specs.declared.mapping.Kind.{Kind}
use Rattle.mappings.specs.declared.rows.Side.{Side}
use Rattle.mappings.specs.declared.rows.Side.TheVariants.{OfU, OfV, OfX, OfY}
use Rattle.mappings.specs.declared.rows.Terms.{Terms}
use Rattle.mappings.specs.declared.rows.Twin.{Twin}
use Rattle.mappings.specs.Mapping.{Fitted, mapping, fitted, refused}
use Rattle.exact.specs.Vector.{Vector}
use Rattle.linear.specs.Normal.{lstsq, in_turn}
use Rattle.mappings.specs.Pairs.{pair_at}
use Rattle.mappings.specs.Rows.{row_of, side_of, first_row, second_row}
use Rattle.fit.specs.declared.lstsq.Sides.{Sides}

-- ---- one row a pair

abbrev pub row_of_pair : Vector → ℕ → Terms → ℕ → Vector
row_of_pair values skip terms j = row_of terms (pair_at values skip j)

abbrev pub sides_of : Vector → ℕ → Side → ℕ → Float
sides_of values skip side j = side_of side (pair_at values skip j)

abbrev pub fit_one : Vector → ℕ → ℕ → Terms → Side → ℕ → Option Vector
fit_one values skip pairs terms side n = lstsq (row_of_pair values skip terms) (sides_of values skip side) n pairs

-- ---- two rows a pair: first, second, first, second, .. with the right-hand sides u, v, u, v, ..

abbrev pub first_rows : Vector → Twin → ℕ → Vector
first_rows values twin j = first_row twin (pair_at values 0 j)

abbrev pub second_rows : Vector → Twin → ℕ → Vector
second_rows values twin j = second_row twin (pair_at values 0 j)

abbrev pub all_u : Vector → ℕ → Float
all_u values j = (pair_at values 0 j).u

abbrev pub all_v : Vector → ℕ → Float
all_v values j = (pair_at values 0 j).v

abbrev pub fit_twin : Vector → ℕ → Twin → ℕ → Option Vector
fit_twin values pairs twin n =
    lstsq (in_turn (first_rows values twin) (second_rows values twin)) (in_turn (all_u values) (all_v values)) n (2 * pairs)

-- ---- the same terms fitted to two sides: n coefficients of the one and then n of the other; 8, degenerate, where one
-- has no solution

unfoldable pub both : Option Vector → Option Vector → ℕ → Kind → ℕ → Fitted
both None t n kind order = refused 8
both (Some x) None n kind order = refused 8
both (Some x) (Some y) n kind order = fitted (mapping kind order (take n x ++ take n y))

abbrev pub fit_both : Vector → ℕ → ℕ → Terms → Sides → ℕ → Kind → ℕ → Fitted
fit_both values skip pairs terms s n kind order =
    both (fit_one values skip pairs terms s.first n) (fit_one values skip pairs terms s.second n) n kind order

-- u and v, for a mapping that goes back to the picture; x and y, for one that goes forward
abbrev pub u_and_v : Sides
u_and_v = record { first = OfU; second = OfV }

abbrev pub x_and_y : Sides
x_and_y = record { first = OfX; second = OfY }
