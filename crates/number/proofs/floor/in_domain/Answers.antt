-- `number::floor::in_domain` meets its contract: by the kind of float, and of a finite one by its sign. One of the two
-- comparisons always passes, and the other is one of naturals. Assumes nothing.
use Rattle.std.proofs.Common.{◌≡◌, ℕ, ◌*◌, true, false, not, ◌&&◌, ltb, leb, pos, refl, ap, ◌∙◌, mul-one}
use lib.Ieee.{Float, nan, inf, fin, up, down, le, neg, of_bits}
use Rattle.exact.proofs.Booleans.{and_true}
use Rattle.exact.proofs.Order.{le_flip, not_above}
use Rattle.number.specs.Floor.{in_domain, domain_end}
use Rattle.number.proofs.floor.in_domain.Goals as goal

turned : (a b : ℕ) → not (ltb b (a * 1)) ≡ leb a b
turned a b = ap (λ (n : ℕ). not (ltb b n)) (mul-one a) ∙ not_above a b

tests : (x : Float) → (le (neg domain_end) x && le x domain_end) ≡ in_domain x
unfolding le neg of_bits in_domain
tests nan = refl
tests (inf true) = refl
tests (inf false) = refl
tests (fin false m e) = (λ i. le_flip true false 1 m (pos 31) e i && le_flip false false m 1 e (pos 31) i)
    ∙ turned (m * up e) (2147483648 * down e)
tests (fin true m e) = (λ i. le_flip true true 1 m (pos 31) e i && le_flip true false m 1 e (pos 31) i)
    ∙ and_true (not (ltb (2147483648 * down e) (m * up e * 1))) ∙ turned (m * up e) (2147483648 * down e)

pub returns : goal.returns
returns c = tests c.args.x
