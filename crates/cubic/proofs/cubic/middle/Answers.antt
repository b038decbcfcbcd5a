-- `cubic::cubic::middle` meets its contract: each piece, divided by 6.
use Rattle.cubic.proofs.cubic.middle.Goals as goal

pub returns : goal.returns
returns c = rw (
  c.far_piece.ensures,
  c.near_piece.ensures,
  c.near_piece-2.ensures,
  c.far_piece-2.ensures,
)
