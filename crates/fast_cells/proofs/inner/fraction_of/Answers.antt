-- `fast_cells::inner::fraction_of` meets its contract: the whole number below z is its floor, and what is left is
-- short.
use mathlib.Core.Path.{sym, ◌∙◌}
use Rattle.fast_cells.proofs.inner.fraction_of.Goals as goal

pub narrow_short-requires : goal.narrow_short-requires
narrow_short-requires c = rw (c.whole_below.ensures ∙ sym c.requires.1.same) c.requires.1.rest

pub returns : goal.returns
returns c = c.narrow_short.ensures ∙ rw (c.whole_below.ensures ∙ sym c.requires.1.same)
