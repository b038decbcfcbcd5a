-- `large` is its definition: eight parts side by side are the first 8 m samples, and the rest goes on from there
-- (PartsLaws).
use borrow.Author.Rules.{rules}
use Rattle.sample_limit.proofs.PartsLaws.{parts_and_rest}
use Rattle.sample_limit.proofs.large.large.Goals as goal

pub returns : goal.returns
returns c = parts_and_rest _ _ _ _ _ (search rules) c.in_parts.ensures c.in_rest.ensures
