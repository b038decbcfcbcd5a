-- `listing::print::store_hex` meets its contract. The invariant: putting the digits that are left from here on gives
-- what putting all of them gave at the start. Assumes nothing.
use mathlib.Core.Path.{◌≡◌}
use Prim.Native.Nat.{◌+◌, ◌-◌}
use Rattle.listing.specs.Print.{put_text, hex_text}
use Rattle.listing.proofs.print.store_hex.Given as goal

abbrev pub invariant-loop-k : goal.invariant-loop-k
invariant-loop-k l = (put_text l.out (l.at + l.k) (hex_text (16 - l.k) l.n) ≡ put_text l.initial.out l.at (hex_text 16 l.n))
