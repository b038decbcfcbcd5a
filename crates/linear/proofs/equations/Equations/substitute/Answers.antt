-- A turn of the loop is one of the definition's.
use Rattle.std.proofs.Common.{ℕ, ◌+◌, ◌-◌, rules}
use Rattle.exact.proofs.Loop.{down_to_none, down_to_next, down_to_last}
use Rattle.linear.specs.Solve.{substitute}
use Rattle.linear.proofs.equations.Equations.substitute.Goals as goal

pub loop-i-init : goal.loop-i-init
loop-i-init c = down_to_none _ _ _

pub loop-i-preserved : goal.loop-i-preserved
unfolding substitute
loop-i-preserved c =
    let i : ℕ = c.loop-i.i in
    rw c.known_terms.ensures
    (down_to_next _ _ _ (i - 1) (search rules)
    (down_to_last _ _ _ i (i - 1 + 1) (search rules) (search rules) c.loop-i.invariant))

pub returns : goal.returns
returns c = down_to_last _ _ _ _ _ (search rules) (search rules) c.loop-i.invariant
