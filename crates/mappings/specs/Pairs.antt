-- Pairs: u, v in the picture and x, y in the output, four numbers each, after `skip` others in the store. Specification
-- 3.1. Assumes nothing.
use Rattle.std.specs.Prelude.{ℕ, ◌+◌, ◌*◌}
use Rattle.mappings.specs.declared.pair.Pair.{Pair}
use Rattle.exact.specs.Vector.{Vector, at}

abbrev pub pair_at : Vector → ℕ → ℕ → Pair
pair_at values skip j = record {
  u = at values (skip + 4 * j);
  v = at values (skip + 4 * j + 1);
  x = at values (skip + 4 * j + 2);
  y = at values (skip + 4 * j + 3);
}
