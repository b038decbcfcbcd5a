-- `policies::named::random` meets its contract: the mix of the bits, reduced. Assumes nothing.
use Rattle.policies.specs.Named.{picked}
use Rattle.policies.proofs.IndexCode.{bits_signed}
use Rattle.policies.proofs.named.random.Goals as goal

pub returns : goal.returns
unfolding picked
returns c = rw (bits_signed _ c.ranges.x.fits, bits_signed _ c.ranges.y.fits, c.mix-z.ensures)
