-- `listing::print::store_text` meets its contract: a text that is copied is put byte by byte. Assumes nothing.
use mathlib.Core.Path.{refl}
use native.Mathlib.Omega.{arith}
use Rattle.listing.proofs.PrintLaws.{copied}
use Rattle.listing.proofs.print.store_text.Goals as goal

pub returns : goal.returns
returns c = (refl, copied _ _ _ (omega arith) _ _ (omega arith) c.copy_from_slice.ensures.after)
