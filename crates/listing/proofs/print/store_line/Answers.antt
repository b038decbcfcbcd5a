-- `listing::print::store_line` meets its contract: the three stores and the digits between them are the line's text.
-- Assumes nothing.
use mathlib.Core.Path.{refl}
use Rattle.listing.proofs.PrintLaws.{store_line}
use Rattle.listing.proofs.print.store_line.Goals as goal

pub returns : goal.returns
returns c = (refl, rw (c.store_hex.ensures.1, c.bits.ensures) (store_line _ _ _ _))
