-- `listing::text::feed` meets its contract. The invariant: what is left of the chunk leads from here to where the whole
-- chunk leads from the start. Assumes nothing.
use mathlib.Core.Path.{sym, ap, ◌∙◌}
use Prim.Native.Nat.{◌+◌}
use native.Mathlib.Omega.{arith}
use lib.ListN.{drop}
use Rattle.listing.specs.Reader.{ReaderState, fed}
use Rattle.listing.proofs.Fed.{fed_next, fed_end}
use Rattle.listing.proofs.text.feed.Goals as goal

pub loop-b-preserved : goal.loop-b-preserved
loop-b-preserved c =
    let l = c.loop-b in
    let chunk = c.args.chunk.now in
    ap (λ (t : ReaderState). fed t (drop (l.b-index + 1) chunk)) c.read_byte.ensures
    ∙ sym (fed_next _ chunk l.b-index (omega arith)) ∙ l.invariant

pub returns : goal.returns
returns c =
    let l = c.loop-b in
    sym (fed_end _ _ l.b-index (omega arith)) ∙ l.invariant
