-- The place of a column's name is one of four, and a number below 4 is the place of a name. Assumes nothing.
use Prim.Native.Nat.{ℕ, zero, suc, ◌<◌}
use lib.Dec.{lit<}
use Rattle.listing.specs.declared.names.Coordinate.{Coordinate}
use Rattle.listing.specs.declared.names.Coordinate.TheVariants.{U, V, X, Y}
use Rattle.listing.specs.declared.names.Names.{Names}
use Rattle.listing.specs.Names.{place, name_at, slot_of}

place_lt : (c : Coordinate) → place c < 4
place_lt U = lit< tt
place_lt V = lit< tt
place_lt X = lit< tt
place_lt Y = lit< tt

pub slot_lt : (n : Names) (column : ℕ) → slot_of n column < 4
unfolding slot_of
slot_lt n column = place_lt (name_at n column)

-- the name at a place; past the last it is the last
abbrev pub named : ℕ → Coordinate
named zero = U
named (suc zero) = V
named (suc (suc zero)) = X
named (suc (suc (suc k))) = Y
