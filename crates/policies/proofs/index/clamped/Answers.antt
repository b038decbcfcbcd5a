-- `policies::index::clamped` meets its contract: each way out rewrites with the tests that led there. Assumes nothing.
use borrow.Author.Tests.{lt-ltb, le-ltb}
use Rattle.policies.specs.Index.{clamped}
use Rattle.policies.proofs.IndexCode.{signed_from, signed_back}
use Rattle.policies.proofs.index.clamped.Goals as goal

pub returns-then-v-ge9223372036854775808 : goal.returns-then-v-ge9223372036854775808
unfolding clamped
returns-then-v-ge9223372036854775808 c = rw (signed_back _ c.if-v-ge9223372036854775808.true)

pub returns-then-v-n : goal.returns-then-v-n
unfolding clamped
returns-then-v-n c = rw (signed_from _ c.if-v-ge9223372036854775808.false, lt-ltb _ _ c.if-v-n.true)

pub returns-else-v-n : goal.returns-else-v-n
unfolding clamped
returns-else-v-n c = rw (signed_from _ c.if-v-ge9223372036854775808.false, le-ltb _ _ c.if-v-n.false)
