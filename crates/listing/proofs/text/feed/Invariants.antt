-- `listing::text::feed` meets its contract. The invariant: what is left of the chunk leads from here to where the whole
-- chunk leads from the start. Assumes nothing.
use mathlib.Core.Path.{◌≡◌}
use lib.ListN.{drop}
use Rattle.listing.specs.Reader.{fed}
use Rattle.listing.proofs.text.feed.Given as goal

abbrev pub invariant-loop-b : goal.invariant-loop-b
invariant-loop-b l = fed (l.r, l.arguments) (drop l.b-index l.chunk) ≡ fed (l.initial.r, l.initial.arguments) l.chunk
