-- A turn of the loop adds the definition's next part.
use Rattle.std.proofs.Common.{ℕ, ◌∙◌, ap, rules}
use Rattle.exact.proofs.Loop.{up_to_none, up_to_next}
use Rattle.mappings.specs.Pairs.{pair_at}
use Rattle.fit.specs.Perspective.{add_part}
use Rattle.fit.proofs.perspective.mean_of_side.Goals as goal

pub loop-j-init : goal.loop-j-init
loop-j-init c = up_to_none _ _ _

pub loop-j-preserved : goal.loop-j-preserved
unfolding add_part
loop-j-preserved c =
    let p = c.at.ensures ∙ ap (λ (s : ℕ). pair_at c.args.pairs.now.values.now s c.loop-j.j) c.requires in
    rw (c.side_of.ensures, p, c.nearest_u64_to_f64-n.ensures)
    (up_to_next _ _ _ _ (search rules) c.loop-j.invariant)
