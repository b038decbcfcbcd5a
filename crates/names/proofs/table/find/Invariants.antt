-- `names::table::find` meets its contract. The invariant: the whole table's answer is that of the entries that are left
-- at `k`, in a name that started at `from`. Assumes nothing.
use mathlib.Core.Path.{◌≡◌}
use Prim.Native.Nat.{◌≤◌}
use Rattle.names.specs.Names.{lookup}
use Rattle.names.specs.Table.{entries}
use Rattle.names.proofs.Search.{left}
use Rattle.names.proofs.table.find.Given as goal

abbrev pub invariant-loop-k : goal.invariant-loop-k
invariant-loop-k l = (lookup (entries l.text) l.s ≡ lookup (left l.text l.from l.code l.k) l.s)
    × ((l.from ≤ l.k) × (l.code ≤ l.k))
