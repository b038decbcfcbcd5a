-- The argument store: 257 numbers, zero at first, filled from the caller's bytes, with the count beside them.
-- Specification 3.1. Assumes nothing.
use Rattle.std.specs.Prelude.{ℕ, ◌/◌, min, cond, List, eqb, length, set, replicate, Float}
use Rattle.exact.specs.Double.{nought}
use Rattle.exact.specs.Limits.{most_arguments}
use Rattle.exact.specs.Loop.{up_to}
use Rattle.endian.specs.Bytes.{argument_at}

-- how many whole arguments the bytes hold
abbrev pub count_of : List ℕ → ℕ
count_of bytes = length bytes / 8

-- how many of them it holds: all, where no refusal applies
unfoldable pub held_of : List ℕ → ℕ
held_of bytes = min (count_of bytes) most_arguments

-- its numbers, zero at first
unfoldable pub zero_arguments : List Float
zero_arguments = replicate most_arguments nought

unfoldable pub keep : List ℕ → ℕ → List Float → List Float
keep bytes k values = set values k (argument_at bytes k)

-- the store's numbers
unfoldable pub values_of : List ℕ → List Float
values_of bytes = up_to (keep bytes) 0 (held_of bytes) zero_arguments

-- the first argument, which is a polynomial's order; 0.0 where there is none
unfoldable pub order_of : List ℕ → Float
order_of bytes = cond (eqb (count_of bytes) 0) nought (argument_at bytes 0)
