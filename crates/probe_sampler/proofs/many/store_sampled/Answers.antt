-- `probe_sampler::many::store_sampled` meets its contract: two tests, then the colour, stored.
use mathlib.Core.Path.{sym, ◌∙◌}
use Rattle.probe_sampler.specs.Many.{store_sampled}
use Rattle.probe_sampler.proofs.SampledLaws.{reached}
use Rattle.probe_sampler.proofs.many.store_sampled.Goals as goal
use Rattle.probe_sampler.proofs.many.store_sampled.Goals.{
  then-far_coordinate-via-then-far_coordinate as first,
  then-far_coordinate-via-else-far_coordinate+then-far_coordinate-2 as second,
}

pub returns-then-far_coordinate : goal.returns-then-far_coordinate
unfolding store_sampled
returns-then-far_coordinate c = elim c.then-far_coordinate.branch [
  | first w ↦ rw (← c.read_at-x.ensures, ← c.far_coordinate.ensures, w.if-far_coordinate.true)
  | second w ↦ rw (
    ← c.read_at-x.ensures,
    ← c.read_at-y.ensures,
    ← c.far_coordinate.ensures,
    w.if-far_coordinate.false,
    ← w.far_coordinate-else-far_coordinate.ensures,
    w.if-far_coordinate-2.true,
  )
]

pub store_colour-requires-clause-reached : goal.store_colour-requires-clause-reached
store_colour-requires-clause-reached c = (
  reached _ (sym c.far_coordinate.ensures ∙ c.if-far_coordinate.false),
  reached _ (sym c.far_coordinate-else-far_coordinate.ensures ∙ c.if-far_coordinate-2.false),
)

pub returns : goal.returns
unfolding store_sampled
returns c = rw (
  ← c.read_at-x.ensures,
  ← c.read_at-y.ensures,
  ← c.far_coordinate.ensures,
  c.if-far_coordinate.false,
  ← c.far_coordinate-else-far_coordinate.ensures,
  c.if-far_coordinate-2.false,
  c.store_colour.ensures,
)
