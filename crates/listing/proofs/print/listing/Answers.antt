-- `listing::print::listing` meets its contract: the head and the lines after it are the listing's text, put part by
-- part. Assumes nothing.
use mathlib.Core.Path.{sym, ap, ◌∙◌}
use Prim.Native.Nat.{ℕ, ◌+◌}
use Rattle.endian.specs.Bytes.{ascii}
use Rattle.listing.specs.Print.{listing_text}
use Rattle.listing.proofs.PrintLaws.{store_append}
use Rattle.listing.proofs.print.listing.Goals as goal

pub returns : goal.returns
unfolding listing_text
returns c =
    let t = c.store_text-at in (
      c.store_lines.ensures.0 ∙ ap (λ (k : ℕ). k + 114) t.ensures.0,
      rw (c.store_lines.ensures.1, t.ensures.0, t.ensures.1) (sym (store_append _ 0 (ascii "name bits\n") _)),
    )
