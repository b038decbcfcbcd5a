-- `rows::span::store_colours` meets its contract: what the loop for such pixels put, or else what `store_any` put into
-- the band as it was.
use Rattle.rows.proofs.span.store_colours.Goals as goal

pub returns-then-store_alike : goal.returns-then-store_alike
returns-then-store_alike c = c.store_alike.ensures.0 c.if-store_alike.true _ _ _
