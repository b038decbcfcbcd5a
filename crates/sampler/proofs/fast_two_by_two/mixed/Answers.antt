-- `sampler::fast_two_by_two::mixed` meets its contract: by the test of the channels.
use borrow.Author.Tests.{ne_eqb}
use Rattle.sampler.specs.TwoByTwo.{mixed}
use Rattle.sampler.proofs.fast_two_by_two.mixed.Goals as goal

pub returns-then-channels-eq4 : goal.returns-then-channels-eq4
unfolding mixed
returns-then-channels-eq4 c = rw (c.if-channels-eq4.true, c.mean.ensures, c.sums.ensures)

pub returns-then-channels-eq3 : goal.returns-then-channels-eq3
unfolding mixed
returns-then-channels-eq3 c = rw (c.if-channels-eq3.true, c.over_weight.ensures, c.sums-then-channels-eq3.ensures)

pub returns : goal.returns
unfolding mixed
returns c = rw
    (ne_eqb _ 4 c.if-channels-eq4.false, c.over_weight-2.ensures, c.sums-2.ensures)
