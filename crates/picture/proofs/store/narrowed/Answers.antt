-- `picture::store::narrowed` meets its contract: each way out rewrites with the tests that led there.
use mathlib.Core.Path.{◌∙◌}
use borrow.Author.Tests.{ne_eqb}
use Rattle.picture.specs.Store.{narrowed}
use Rattle.picture.proofs.store.narrowed.Goals as goal

pub returns-then-channels-eq4 : goal.returns-then-channels-eq4
unfolding narrowed
returns-then-channels-eq4 g c = c.store_sample.ensures ∙ rw (c.store_three.ensures, c.if-channels-eq4.true)

pub returns-then-this-ne0 : goal.returns-then-this-ne0
unfolding narrowed
returns-then-this-ne0 g c = c.store_three-then-this-ne0.ensures ∙ rw c.if-channels-eq3.true

pub returns-else-this-ne0 : goal.returns-else-this-ne0
unfolding narrowed
returns-else-this-ne0 g c = c.store_rgb.ensures ∙ rw c.if-channels-eq3.true

pub returns : goal.returns
unfolding narrowed
returns g c =
    c.store_sample-2.ensures
    ∙ rw (c.luma.ensures, ne_eqb _ 4 c.if-channels-eq4.false, ne_eqb _ 3 c.if-channels-eq3.false)
