-- `policies::named::horizontal_tile` meets its contract, by its one test. Assumes nothing.
use Rattle.policies.proofs.IndexCode.{signed_inside, within_yes, within_no}
use Rattle.policies.proofs.named.horizontal_tile.Goals as goal

pub returns-then-y-h : goal.returns-then-y-h
returns-then-y-h c = rw (
  within_yes _ _ c.if-y-h.true c.requires.height_most,
  signed_inside _ _ c.if-y-h.true c.requires.height_most,
  c.tile.ensures,
)

pub returns : goal.returns
returns c = rw (within_no _ _ c.if-y-h.false)
