-- `names::policy` meets its contract: the entries of its text compute to the table of the definition. Assumes nothing.
use Rattle.names.specs.Table.{ends_name, next_name, next_code, split, entries}
use Rattle.names.proofs.policy.Goals as goal

pub returns : goal.returns
unfolding ends_name next_name next_code split entries
returns c = c.find.ensures
