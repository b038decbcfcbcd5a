-- `listing::print::store_lines` meets its contract. The invariant: putting the lines that are left from here on gives
-- what putting all six gave at the start. Assumes nothing.
use mathlib.Core.Path.{◌≡◌}
use Prim.Native.Nat.{◌+◌, ◌-◌, ◌*◌}
use Rattle.listing.specs.Print.{put_text, lines_text}
use Rattle.listing.proofs.print.store_lines.Given as goal

abbrev pub invariant-loop-k : goal.invariant-loop-k
invariant-loop-k l = (put_text l.out (l.at + 19 * l.k) (lines_text l.k (6 - l.k) l.coefficients) ≡ put_text l.initial.out l.at (lines_text 0 6 l.coefficients))
