-- A turn stores the monomials of one degree, from the place where they start.
use Rattle.std.proofs.Common.{ℕ, [], ap, ◌∙◌, arith, rules}
use Rattle.exact.specs.Loop.{up_to}
use Rattle.mappings.specs.Monomials.{of_degree}
use Rattle.mappings.specs.Padded.{padded}
use Rattle.mappings.proofs.MonomialsLaws.{filled_none, filled_next, places}
use Rattle.mappings.proofs.monomials.up_to_degree.Goals as goal

pub loop-total-init : goal.loop-total-init
loop-total-init c = filled_none _ _

pub store_degree-requires : goal.store_degree-requires
store_degree-requires c = (search rules, places _ _ c.loop-total.invariant.place (search rules))

pub overflow_add-start : goal.overflow_add-start
overflow_add-start c = omega (arith, places _ _ c.loop-total.invariant.place (search rules))

pub overflow_add-start-in-loop-total : goal.overflow_add-start-in-loop-total
overflow_add-start-in-loop-total c = omega (arith, places _ _ c.loop-total.invariant.place (search rules))

pub loop-total-preserved : goal.loop-total-preserved
loop-total-preserved c =
    filled_next _ _ _ _ _ _ _ _ c.powers-px.ensures c.powers-py.ensures (search rules) c.loop-total.invariant
    c.store_degree.ensures

pub returns : goal.returns
returns c = c.loop-total.invariant.held
    ∙ ap (λ (k : ℕ). padded 21 (up_to (of_degree c.args.x c.args.y) 0 k [])) (search rules)
