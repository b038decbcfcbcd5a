-- `cubic::cubic::pieces` meets its contract: each way out is the piece that the definition picks where its tests are as
-- the code found them.
use Rattle.cubic.specs.Cubic.{pieces}
use Rattle.cubic.proofs.cubic.pieces.Goals as goal

pub returns-then-ax : goal.returns-then-ax
unfolding pieces
returns-then-ax c = rw c.if-ax.true c.near_piece.ensures

pub returns-then-ax-2 : goal.returns-then-ax-2
unfolding pieces
returns-then-ax-2 c = rw (c.if-ax.false, c.if-ax-2.true) c.far_piece.ensures

pub returns-else-ax-2 : goal.returns-else-ax-2
unfolding pieces
returns-else-ax-2 c = rw (c.if-ax.false, c.if-ax-2.false)
