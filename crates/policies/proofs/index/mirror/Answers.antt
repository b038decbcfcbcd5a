-- `policies::index::mirror` meets its contract: the upper half of a double tile is turned round. Assumes nothing.
use Prim.Native.Nat.{◌*◌}
use native.Mathlib.Omega.{arith}
use borrow.Author.Tests.{lt-ltb, le-ltb}
use Rattle.policies.specs.Index.{signed, mirror}
use Rattle.policies.proofs.IndexLaws.{tile_lt}
use Rattle.policies.proofs.index.mirror.Goals as goal

pub overflow_sub-result-else-m-n : goal.overflow_sub-result-else-m-n
overflow_sub-result-else-m-n c = omega (
  arith,
  c.tile-m.ensures,
  tile_lt (signed c.args.v) (2 * c.args.n) (omega arith),
)

pub returns-then-m-n : goal.returns-then-m-n
unfolding mirror
returns-then-m-n c = rw (← c.tile-m.ensures, lt-ltb _ _ c.if-m-n.true)

pub returns-else-m-n : goal.returns-else-m-n
unfolding mirror
returns-else-m-n c = rw (← c.tile-m.ensures, le-ltb _ _ c.if-m-n.false)
