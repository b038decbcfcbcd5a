-- `policies::index::parity` meets its contract, by the sign that the bits tell: one more turns a parity. Assumes
-- nothing.
use mathlib.Core.Path.{◌≡◌}
use Prim.Native.Nat.{ℕ, ◌+◌, ◌-◌, ◌%◌}
use native.Mathlib.Omega.{arith}
use Rattle.policies.specs.Index.{parity}
use Rattle.policies.proofs.IndexCode.{signed_from, signed_back}
use Rattle.policies.proofs.index.parity.Goals as goal

turned : (q : ℕ) → 1 - q % 2 ≡ (q + 1) % 2
turned q = omega arith

pub returns-then-v-ge9223372036854775808 : goal.returns-then-v-ge9223372036854775808
unfolding parity
returns-then-v-ge9223372036854775808 c = rw (signed_back _ c.if-v-ge9223372036854775808.true) (turned _)

pub returns : goal.returns
unfolding parity
returns c = rw (signed_from _ c.if-v-ge9223372036854775808.false)
