-- `number::root::neighbour` meets its contract: what the exact test passes is the nearest root, and where it passes
-- neither neighbour the root is worked out by its digits. Assumes nothing.
use Rattle.number.proofs.root.neighbour.Goals as goal

pub returns-then-settles : goal.returns-then-settles
returns-then-settles c = c.settles.ensures c.if-settles.true

pub returns-then-settles-2 : goal.returns-then-settles-2
returns-then-settles-2 c = c.settles-2.ensures c.if-settles-2.true
