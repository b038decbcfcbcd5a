-- Refusals 3 to 7 over a method and its arguments alone (specification 2): each test by itself, then the table. A test
-- stands on its own and may be asked out of turn; the table's order says which number a caller gets. Assumes nothing.
use Rattle.std.specs.Prelude.{ℕ, ◌-◌, ◌/◌, ◌%◌, Bool, true, not, ◌&&◌, ◌||◌, cond, List, [], ◌∷◌, length, eqb, ltb, Float}
use Rattle.std.specs.Float.{binary64}
use Rattle.std.specs.Float.Ieee.{of_bits}
use Rattle.exact.specs.Limits.{most_arguments, most_pairs}
use Rattle.exact.specs.Loop.{up_to}
use Rattle.exact.specs.Table.{first_of}
use Rattle.endian.specs.Bytes.{argument_at}
use Rattle.number.specs.Magnitude.{within}
use Rattle.arguments.specs.Method.{
  affine_projection_code,
  perspective_projection_code,
  polynomial_code,
  barrel_code,
  barrel_inverse_code,
  present,
  skip,
  least_pairs,
}
use Rattle.arguments.specs.Order.{good_order}
use Rattle.arguments.specs.Store.{count_of, order_of}

-- ---- 4, count
abbrev pub affine_projection_arguments : ℕ
affine_projection_arguments = 6

abbrev pub perspective_projection_arguments : ℕ
perspective_projection_arguments = 8

abbrev pub least_barrel_arguments : ℕ
least_barrel_arguments = 3

-- n values of a pair method, after the order: under 4, not in fours, or over the most pairs
unfoldable pub bad_values : ℕ → Bool
bad_values n = ltb n 4 || not (eqb (n % 4) 0) || ltb most_pairs (n / 4)

-- the wrong number of arguments n for the method m
unfoldable pub bad_for : ℕ → ℕ → Bool
bad_for m n =
    cond (eqb m affine_projection_code) (not (eqb n affine_projection_arguments))
    (cond (eqb m perspective_projection_code) (not (eqb n perspective_projection_arguments))
    (cond (eqb m barrel_code || eqb m barrel_inverse_code) (ltb n least_barrel_arguments)
    (cond (eqb m polynomial_code) (eqb n 0 || bad_values (n - 1))
    (bad_values n))))

-- bytes that end inside an argument, more than the most arguments, or the wrong number for the method
unfoldable pub bad_count : ℕ → List ℕ → Bool
bad_count m bytes = not (eqb (length bytes % 8) 0) || ltb most_arguments (count_of bytes) || bad_for m (count_of bytes)

-- ---- 5, number
-- the largest argument in magnitude
abbrev pub argument_limit : Float
argument_limit = of_bits binary64 0x4130_0000_0000_0000  -- 1048576.0

-- finite and at most that in magnitude
unfoldable pub good_number : Float → Bool
good_number x = within argument_limit x

unfoldable pub still_good : List ℕ → ℕ → Bool → Bool
still_good bytes k good = good && good_number (argument_at bytes k)

-- an argument that is no good number
unfoldable pub bad_argument : List ℕ → Bool
bad_argument bytes = not (up_to (still_good bytes) 0 (count_of bytes) true)

-- ---- 6, order
unfoldable pub bad_order : ℕ → List ℕ → Bool
bad_order m bytes = eqb m polynomial_code && not (good_order (order_of bytes))

-- ---- 7, few
-- how many pairs n arguments of a pair method are
abbrev pub pairs_in : ℕ → ℕ → ℕ
pairs_in m n = (n - skip m) / 4

unfoldable pub pairs_of : ℕ → List ℕ → ℕ
pairs_of m bytes = pairs_in m (count_of bytes)

-- under the method's least pairs. (For `Affine` and `Shepards` it is 1, so what is under that is refused by 4 already.)
unfoldable pub few_pairs : ℕ → List ℕ → Bool
few_pairs m bytes = ltb (pairs_of m bytes) (least_pairs m (order_of bytes))

-- ---- the table
abbrev pub arguments_refusals : ℕ → List ℕ → List (ℕ × Bool)
arguments_refusals m bytes =
    (3, not (present m))
    ∷ ((4, bad_count m bytes)
    ∷ ((5, bad_argument bytes)
    ∷ ((6, bad_order m bytes)
    ∷ ((7, few_pairs m bytes)
    ∷ []))))

unfoldable pub arguments_refusal : ℕ → List ℕ → ℕ
arguments_refusal m bytes = first_of (arguments_refusals m bytes)
