-- `fast_cubic::kernels::weigh4` meets its contract. The loop's invariant: the first k fractions are weighed, if the
-- answer is still true.
use mathlib.Core.Path.{◌≡◌, ap, subst}
use mathlib.Core.Bool.{true}
use mathlib.Core.List.{List, [], ◌∷◌}
use lib.Ieee.{Float}
use borrow.Author.Rules.{rules}
use Rattle.exact.specs.Vector.{at}
use Rattle.cubic.specs.declared.cubic.CubicRow.{CubicRow}
use Rattle.cubic.proofs.CubicCode.{middle_weights}
use Rattle.fast_cubic.specs.Kernels.{Weighed4}
use Rattle.fast_cubic.proofs.KernelLaws.{weigh4_none, weigh4_more, weigh4_last}
use Rattle.fast_cubic.proofs.kernels.weigh4.Goals as goal

pub loop-k-init : goal.loop-k-init
loop-k-init g c = (weigh4_none c.sized.ensures, search rules)

pub loop-k-preserved : goal.loop-k-preserved
loop-k-preserved g c = (
  weigh4_more c.loop-k.k (search rules)
      (λ e. middle_weights _ _ c.distances_of-d.ensures c.between-good.ensures e
      (ap (λ (w : List Float). at w 0 ∷ at w 1 ∷ at w 2 ∷ at w 3 ∷ []) c.middle-m.ensures))
      c.loop-k.invariant.0,
  search rules,
)

pub returns : goal.returns
returns g c = subst (λ (row : CubicRow). c.loop-k.good ≡ true → Weighed4 row c.args.n c.args.ts.now c.loop-k.w)
    c.row-row.ensures (weigh4_last c.loop-k.k _ (search rules) c.loop-k.invariant.0)
