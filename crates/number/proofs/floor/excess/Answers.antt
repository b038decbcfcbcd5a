-- `number::floor::excess` meets its contract: by the test. Assumes nothing.

use Rattle.number.proofs.floor.excess.Goals as goal

pub returns-then-x-r : goal.returns-then-x-r
returns-then-x-r c = simp c.if-x-r.true

pub returns-else-x-r : goal.returns-else-x-r
returns-else-x-r c = simp c.if-x-r.false
