-- `Policy::of_code` meets its contract: the policy that the code is read as, or the last.
use mathlib.Core.Path.{◌∙◌}
use Rattle.policies.proofs.NamedCode.{decoded}
use Rattle.policies.proofs.policy.Policy.of_code.Goals as goal

pub returns : goal.returns
returns c = c.unwrap_or.ensures ∙ decoded _ _ c.try_from.ensures
