-- A turn of the loop is one of the definition's.
use Rattle.std.proofs.Common.{rules, zero-le}
use Rattle.exact.proofs.Loop.{up_to_none, up_to_next, up_to_last}
use Rattle.arguments.specs.Store.{zero_arguments, keep, values_of}
use Rattle.arguments.proofs.StoreLaws.{held_room}
use Rattle.arguments.proofs.store.fill.Goals as goal

pub loop-k-init : goal.loop-k-init
unfolding zero_arguments
loop-k-init c = record {
  values = up_to_none _ _ _;
  room = rw c.held_of-count.ensures ((held_room _).0);
  bytes = rw c.held_of-count.ensures ((held_room _).1);
}

pub loop-k-preserved : goal.loop-k-preserved
unfolding keep
loop-k-preserved c = record {
  values = rw c.read_at.ensures (up_to_next _ _ _ _ zero-le c.loop-k.invariant.values);
  room = c.loop-k.invariant.room;
  bytes = c.loop-k.invariant.bytes;
}

pub returns : goal.returns
unfolding values_of zero_arguments
returns c = (
  rw (← c.held_of-count.ensures)
      (up_to_last _ _ _ c.loop-k.k _ (search rules) (search rules) c.loop-k.invariant.values),
  c.held_of-count.ensures,
)
