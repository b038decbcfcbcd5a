-- `probe_points::pointed::store_point` meets its contract: three writes, one after another. Assumes nothing.
use Rattle.probe_points.proofs.pointed.store_point.Goals as goal

pub returns : goal.returns
returns c = rw (
  c.store_at-3.ensures,
  c.flag.ensures,
  c.store_at-2.ensures,
  c.store_at.ensures,
)
