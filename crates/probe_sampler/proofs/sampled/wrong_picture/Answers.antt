-- `probe_sampler::sampled::wrong_picture` meets its contract: each way out is the test that it found.
use mathlib.Core.Path.{sym, ◌∙◌}
use Rattle.probe_sampler.specs.Sampled.{wrong_picture}
use Rattle.probe_sampler.proofs.sampled.wrong_picture.Goals as goal

pub returns-then-bad_size : goal.returns-then-bad_size
unfolding wrong_picture
returns-then-bad_size c = rw (← c.bad_size.ensures, c.if-bad_size.true)

pub bad_stock-requires : goal.bad_stock-requires
bad_stock-requires c = sym c.bad_size.ensures ∙ c.if-bad_size.false

pub returns : goal.returns
unfolding wrong_picture
returns c = rw (← c.bad_size.ensures, c.if-bad_size.false) c.bad_stock.ensures
