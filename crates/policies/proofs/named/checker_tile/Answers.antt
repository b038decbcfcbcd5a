-- `policies::named::checker_tile` meets its contract: two parities are equal where their sum is even. Assumes nothing.
use Rattle.policies.proofs.IndexLaws.{parity_lt}
use Rattle.policies.proofs.NamedCode.{other_parity}
use Rattle.policies.proofs.named.checker_tile.Goals as goal

pub returns : goal.returns
returns c = rw (
  ← c.parity.ensures,
  ← c.parity-2.ensures,
  other_parity _ _ (rw c.parity.ensures (parity_lt _ _))
      (rw c.parity-2.ensures (parity_lt _ _)) c.if-parity.false,
)
