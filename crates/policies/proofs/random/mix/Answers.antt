-- `policies::random::mix` meets its contract: the products are the callee's, the rest is as written. Assumes nothing.
use Rattle.policies.specs.Random.{mix, folded}
use Rattle.policies.proofs.random.mix.Goals as goal

pub returns : goal.returns
unfolding mix folded
returns c = rw (c.wrapping_mul-b.ensures, c.wrapping_mul-2.ensures, c.wrapping_mul.ensures)
