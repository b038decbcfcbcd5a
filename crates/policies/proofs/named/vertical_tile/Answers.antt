-- `policies::named::vertical_tile` meets its contract, by its one test. Assumes nothing.
use Rattle.policies.proofs.IndexCode.{signed_inside, within_yes, within_no}
use Rattle.policies.proofs.named.vertical_tile.Goals as goal

pub returns-then-x-w : goal.returns-then-x-w
returns-then-x-w c = rw (
  within_yes _ _ c.if-x-w.true c.requires.width_most,
  signed_inside _ _ c.if-x-w.true c.requires.width_most,
  c.tile.ensures,
)

pub returns : goal.returns
returns c = rw (within_no _ _ c.if-x-w.false)
