-- `eight` is its definition: eight tests, one after another.
use Rattle.sample_limit.proofs.large.one_of_eight.Goals as goal

pub returns : goal.returns
returns c = cc
