-- `number::floor::whole_below` meets its contract: r is a whole number z, the excess is the whole number 1 or 0, and
-- the difference of the two is exact, and is the floor. Assumes nothing.
use Rattle.std.proofs.Common.{◌≡◌, Bool, true, false, cond, T, pos, refl, ap, ◌∙◌, lit≤}
use lib.Ieee.{Float, binary64, lt, of_bits, of_int, in_float}
use Rattle.exact.specs.Double.{◌⊕◌, ◌⊖◌}
use Rattle.exact.proofs.Integer.{of_int_sub}
use Rattle.number.specs.Floor.{in_domain, floorℤ}
use Rattle.number.proofs.FloorRound.{C, counts}
use Rattle.number.proofs.FloorCode.{rounded}
use Rattle.number.proofs.floor.whole_below.Goals as goal

-- ---- what is taken from r
excess-is : (b : Bool) → cond b (of_bits binary64 0x3ff0_0000_0000_0000) (of_bits binary64 0) ≡ of_int binary64
    (cond b (pos 1) (pos 0))
unfolding of_bits of_int
excess-is true = refl
excess-is false = refl

counted : (b : Bool) → T (in_float binary64 (cond b (pos 1) (pos 0)))
counted true = counts (pos 1) (lit≤ tt)
counted false = counts (pos 0) (lit≤ tt)

difference : (x r q : Float) → r ≡ x ⊕ C ⊖ C
    → q ≡ cond (lt x r) (of_bits binary64 0x3ff0_0000_0000_0000) (of_bits binary64 0) → T (in_domain x) → r
    ⊖ q ≡ of_int binary64 (floorℤ x)
difference x r q e g d =
    (λ i. (e ∙ (rounded x d).is) i
    ⊖ (g ∙ ap (λ (y : Float). cond (lt x y) (of_bits binary64 0x3ff0_0000_0000_0000) (of_bits binary64 0)) e
    ∙ excess-is (lt x (x ⊕ C ⊖ C))) i)
    ∙ of_int_sub binary64 (rounded x d).z (cond (lt x (x ⊕ C ⊖ C)) (pos 1) (pos 0))
    (counts (rounded x d).z (rounded x d).small) (counted (lt x (x ⊕ C ⊖ C)))
    ∙ ap (of_int binary64) (rounded x d).fall

pub returns : goal.returns
returns c = difference c.args.x c.whole_near-r.result c.excess.result
    c.whole_near-r.ensures c.excess.ensures c.requires
