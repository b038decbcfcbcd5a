-- No premise is empty: a call that no refusal applies to, and one for each number, computed from one table. Then the
-- orders of a polynomial: the six, each with its least pairs and with one fewer, and numbers beside them. Assumes
-- nothing.
use mathlib.Core.Path.{◌≡◌, refl}
use mathlib.Core.List.{List, [], ◌∷◌, ◌++◌, map}
use Prim.Native.Nat.{ℕ, ◌+◌, ◌-◌, ◌*◌}
use lib.ListN.{replicate}
use lib.Ieee.{of_bits, of_fields, odd, le, eq, span, climb}
use Rattle.exact.specs.Table.{first_of}
use Rattle.exact.specs.Loop.{turns, up_to}
use Rattle.number.specs.Magnitude.{abs, within}
use Rattle.endian.specs.Bytes.{number_at, store_number, store_u64}
use Rattle.arguments.specs.Method.{affine_code, polynomial_code, present, skip, least_pairs}
use Rattle.arguments.specs.Order.{bilinear_order, degree, terms_of, good_order}
use Rattle.arguments.specs.Store.{order_of}
use Rattle.arguments.specs.Refusal.{
  bad_values,
  bad_for,
  bad_count,
  good_number,
  still_good,
  bad_argument,
  bad_order,
  pairs_of,
  few_pairs,
  arguments_refusal,
}

-- the bytes of 0.0, n times, and of a float whose lower six bytes are 0
abbrev pub zeros : ℕ → List ℕ
zeros n = replicate (8 * n) 0

abbrev pub float : ℕ → ℕ → List ℕ
float low high = replicate 6 0 ++ (low ∷ high ∷ [])

abbrev pub calls : List (ℕ × List ℕ)
calls =
    (affine_code, zeros 4)  -- one pair at the origin
    ∷ ((2, zeros 4)  -- `ScaleRotateTranslate`
    ∷ ((affine_code, zeros 3)  -- no whole pair
    ∷ ((affine_code, zeros 3 ++ float 0xf0 0x7f)  -- an infinity
    ∷ ((polynomial_code, float 0x04 0x40 ++ zeros 36)  -- order 2.5 with 9 pairs
    ∷ ((polynomial_code, float 0x08 0x40 ++ zeros 36)  -- order 3 with 9 pairs
    ∷ [])))))

pub answers : map (λ (c : ℕ × List ℕ). arguments_refusal c.0 c.1) calls ≡ 0 ∷ (3 ∷ (4 ∷ (5 ∷ (6 ∷ (7 ∷ [])))))
unfolding arguments_refusal first_of present bad_count bad_for bad_values bad_argument still_good good_number up_to turns within
    abs le number_at of_bits of_fields odd bad_order pairs_of few_pairs skip least_pairs order_of good_order terms_of
    bilinear_order degree eq span climb
answers = refl

-- ---- the orders. An order stands by its bits, beside a number of pairs.
-- the six, with the least pairs of each
abbrev pub six : List (ℕ × ℕ)
six =
    (0x3ff0_0000_0000_0000, 3)  -- 1.0
    ∷ ((0x3ff8_0000_0000_0000, 4)  -- 1.5
    ∷ ((0x4000_0000_0000_0000, 6)  -- 2.0
    ∷ ((0x4008_0000_0000_0000, 10)  -- 3.0
    ∷ ((0x4010_0000_0000_0000, 15)  -- 4.0
    ∷ ((0x4014_0000_0000_0000, 21)  -- 5.0
    ∷ [])))))

-- numbers beside them, with one pair
abbrev pub others : List (ℕ × ℕ)
others =
    (0, 1)  -- 0.0
    ∷ ((0x8000_0000_0000_0000, 1)  -- -0.0
    ∷ ((0x3fe0_0000_0000_0000, 1)  -- 0.5
    ∷ ((0x4004_0000_0000_0000, 1)  -- 2.5
    ∷ ((0x4016_0000_0000_0000, 1)  -- 5.5
    ∷ ((0x4018_0000_0000_0000, 1)  -- 6.0
    ∷ [])))))

-- what 5 and 4 refuse before the order is judged
abbrev pub sooner : List (ℕ × ℕ)
sooner =
    (0x7ff0_0000_0000_0000, 1)  -- an infinity
    ∷ ((0x4140_0000_0000_0000, 1)  -- 2097152.0
    ∷ ((0x4004_0000_0000_0000, 0)  -- 2.5 without pairs
    ∷ []))

-- the refusal of an order with so many pairs at the origin
abbrev pub of_order : ℕ × ℕ → ℕ
of_order o = arguments_refusal polynomial_code (store_u64 (replicate 8 0) 0 o.0 ++ zeros (4 * o.1))

-- each of the six with its least pairs is accepted, with one fewer it is 7; a step below each, a step above each and
-- the numbers beside them are 6
pub orders :
    map of_order six
    ++ (map (λ (o : ℕ × ℕ). of_order (o.0, o.1 - 1)) six
    ++ (map (λ (o : ℕ × ℕ). of_order (o.0 - 1, 1)) six
    ++ (map (λ (o : ℕ × ℕ). of_order (o.0 + 1, 1)) six
    ++ (map of_order others
    ++ map of_order sooner)))) ≡ replicate 6 0 ++ (replicate 6 7 ++ (replicate 18 6 ++ (5 ∷ (5 ∷ (4 ∷ [])))))
unfolding arguments_refusal first_of present bad_count bad_for bad_values bad_argument still_good good_number up_to turns within
    abs le number_at store_number of_bits of_fields odd bad_order pairs_of few_pairs skip least_pairs order_of good_order terms_of
    bilinear_order degree eq span climb
orders = refl
