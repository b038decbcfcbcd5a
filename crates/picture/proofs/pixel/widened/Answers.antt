-- `picture::pixel::widened` meets its contract: each way out rewrites with the tests that led there.
use borrow.Author.Tests.{ne_eqb}
use Rattle.picture.specs.Pixel.{widened}
use Rattle.picture.proofs.pixel.widened.Goals as goal

pub returns-then-channels-eq4 : goal.returns-then-channels-eq4
unfolding widened
returns-then-channels-eq4 c = rw (
  c.if-channels-eq4.true,
  c.sample.ensures,
  c.sample-then-channels-eq4.ensures,
  c.sample-then-channels-eq4-2.ensures,
  c.sample-then-channels-eq4-3.ensures,
)

pub returns-then-channels-eq3 : goal.returns-then-channels-eq3
unfolding widened
returns-then-channels-eq3 c = rw (
  c.if-channels-eq3.true,
  c.sample-then-channels-eq3.ensures,
  c.sample-then-channels-eq3-2.ensures,
  c.sample-then-channels-eq3-3.ensures,
)

pub returns : goal.returns
unfolding widened
returns c = rw (
  ne_eqb _ 4 c.if-channels-eq4.false,
  ne_eqb _ 3 c.if-channels-eq3.false,
  c.grey.ensures,
  c.sample-2.ensures,
)
