-- `policies::index::tile` meets its contract, by the sign that the bits tell. Assumes nothing.
use Rattle.policies.specs.Index.{tile}
use Rattle.policies.proofs.IndexCode.{signed_from, signed_back}
use Rattle.policies.proofs.index.tile.Goals as goal

pub returns-then-v-ge9223372036854775808 : goal.returns-then-v-ge9223372036854775808
unfolding tile
returns-then-v-ge9223372036854775808 c = rw (signed_back _ c.if-v-ge9223372036854775808.true)

pub returns : goal.returns
unfolding tile
returns c = rw (signed_from _ c.if-v-ge9223372036854775808.false)
