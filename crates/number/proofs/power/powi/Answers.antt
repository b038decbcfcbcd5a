-- `number::power::powi` meets its contract. Each way out rewrites with the test that led there, and the last one is
-- the case of an exponent that is none of 0 to 4. Assumes nothing.
use Rattle.std.proofs.Common.{◌≡◌, ℕ, zero, suc, refl}
use lib.Ieee.{Float}
use Rattle.exact.specs.Double.{◌⊗◌}
use Rattle.exact.specs.Power.{power, square}
use Rattle.number.proofs.power.powi.Goals as goal

from-five : (x : Float) (n : ℕ) → (n ≡ 0 → ⊥) → (n ≡ 1 → ⊥) → (n ≡ 2 → ⊥) → (n ≡ 3 → ⊥) → (n ≡ 4 → ⊥)
    → x ⊗ square (square x) ≡ power x n
unfolding power
from-five x zero a b c d e = absurd (a refl)
from-five x (suc zero) a b c d e = absurd (b refl)
from-five x (suc (suc zero)) a b c d e = absurd (c refl)
from-five x (suc (suc (suc zero))) a b c d e = absurd (d refl)
from-five x (suc (suc (suc (suc zero)))) a b c d e = absurd (e refl)
from-five x (suc (suc (suc (suc (suc n))))) a b c d e = refl

pub returns-then-n-eq0 : goal.returns-then-n-eq0
unfolding power
returns-then-n-eq0 c = rw c.if-n-eq0.true

pub returns-then-n-eq1 : goal.returns-then-n-eq1
unfolding power
returns-then-n-eq1 c = rw c.if-n-eq1.true

pub returns-then-n-eq2 : goal.returns-then-n-eq2
unfolding power
returns-then-n-eq2 c = rw c.if-n-eq2.true

pub returns-then-n-eq3 : goal.returns-then-n-eq3
unfolding power
returns-then-n-eq3 c = rw c.if-n-eq3.true

pub returns-then-n-eq4 : goal.returns-then-n-eq4
unfolding power
returns-then-n-eq4 c = rw c.if-n-eq4.true

pub returns : goal.returns
returns c =
    from-five _ _ c.if-n-eq0.false c.if-n-eq1.false
    c.if-n-eq2.false c.if-n-eq3.false c.if-n-eq4.false
