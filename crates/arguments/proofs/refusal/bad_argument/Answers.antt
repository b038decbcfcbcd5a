-- The first number that is not good decides, since no later turn changes that.
use mathlib.Core.Path.{◌≡◌, refl, sym, ap, ◌∙◌}
use mathlib.Core.Bool.{true, false, not}
use Prim.Native.Nat.{◌+◌, zero-le}
use native.Mathlib.Omega.{arith}
use Rattle.exact.proofs.Loop.{up_to_none, up_to_next, up_to_last, up_to_stay}
use Rattle.arguments.specs.Refusal.{good_number, still_good, bad_argument}
use Rattle.arguments.proofs.refusal.bad_argument.Goals as goal

pub loop-k-init : goal.loop-k-init
loop-k-init c = up_to_none _ _ _

-- the number at hand is not good, or it is
found : (c : goal.Then-not-within)
    → false ≡ still_good c.args.arguments.now
    c.loop-k.k true
unfolding still_good good_number
found c = sym c.if-not-within.true ∙ c.within.ensures

passed : (c : goal.Else-not-within)
    → true ≡ still_good c.args.arguments.now
    c.loop-k.k true
unfolding still_good good_number
passed c = sym c.if-not-within.false ∙ c.within.ensures

pub returns-then-not-within : goal.returns-then-not-within
unfolding bad_argument still_good
returns-then-not-within c =
    ap not
    (up_to_stay _ _ _ (c.loop-k.k + 1) _ zero-le (omega arith) (λ j. refl)
    (found c ∙ up_to_next _ _ _ _ zero-le c.loop-k.invariant))

pub loop-k-preserved : goal.loop-k-preserved
loop-k-preserved c = passed c ∙ up_to_next _ _ _ _ zero-le c.loop-k.invariant

pub returns : goal.returns
unfolding bad_argument
returns c = ap not (up_to_last _ _ _ c.loop-k.k _ (omega arith) (omega arith) c.loop-k.invariant)
