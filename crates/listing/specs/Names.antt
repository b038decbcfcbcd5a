-- The names line: the column of each of u, v, x and y, counted from 0, once it is read. Names count from 0 in that
-- order. Specification 12.1. Assumes nothing.
use Rattle.std.specs.Prelude.{ℕ, Bool, false, cond, eqb, Option, Some, None}
use Rattle.listing.specs.declared.names.Coordinate.{Coordinate}
use Rattle.listing.specs.declared.names.Coordinate.TheVariants.{U, V, X, Y}
use Rattle.listing.specs.declared.names.Names.{Names}

abbrev pub place : Coordinate → ℕ
place U = 0
place V = 1
place X = 2
place Y = 3

abbrev pub no_names : Names
no_names = record { u = None; v = None; x = None; y = None }

abbrev pub column_of : Names → Coordinate → Option ℕ
column_of n U = n.u
column_of n V = n.v
column_of n X = n.x
column_of n Y = n.y

-- the name stands in a column
abbrev pub with_name : Names → Coordinate → ℕ → Names
with_name n U column = record { u = Some column; v = n.v; x = n.x; y = n.y }
with_name n V column = record { u = n.u; v = Some column; x = n.x; y = n.y }
with_name n X column = record { u = n.u; v = n.v; x = Some column; y = n.y }
with_name n Y column = record { u = n.u; v = n.v; x = n.x; y = Some column }

-- whether that is the column
abbrev pub is_column : Option ℕ → ℕ → Bool
is_column None column = false
is_column (Some k) column = eqb k column

-- the name that stands in a column, and its place
unfoldable pub name_at : Names → ℕ → Coordinate
name_at n column = cond (is_column n.u column) U (cond (is_column n.v column) V (cond (is_column n.x column) X Y))

unfoldable pub slot_of : Names → ℕ → ℕ
unfolding name_at
slot_of n column = place (name_at n column)
