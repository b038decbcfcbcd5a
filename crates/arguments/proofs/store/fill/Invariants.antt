-- The loop's invariant: the values are the definition's after k turns, and there is room and bytes for the rest.
use Rattle.std.proofs.Common.{◌≡◌, ◌*◌, ◌≤◌, length}
use Rattle.exact.specs.Loop.{up_to}
use Rattle.arguments.specs.Store.{zero_arguments, keep}
use Rattle.arguments.proofs.store.fill.Given as goal

abbrev pub invariant-loop-k : goal.invariant-loop-k
invariant-loop-k l = record {
  values : l.values ≡ up_to (keep l.arguments) 0 l.k zero_arguments;
  room : l.count ≤ 257;
  bytes : 8 * l.count ≤ length l.arguments;
}
