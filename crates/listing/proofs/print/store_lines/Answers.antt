-- `listing::print::store_lines` meets its contract. The invariant: putting the lines that are left from here on gives
-- what putting all six gave at the start. Assumes nothing.
use mathlib.Core.Path.{refl, sym, ap, ◌∙◌}
use mathlib.Core.List.{List}
use Prim.Native.Nat.{ℕ, ◌+◌, ◌-◌, ◌*◌}
use native.Mathlib.Nat.{add-zero}
use native.Mathlib.Omega.{arith}
use Rattle.listing.specs.Print.{put_text, lines_text}
use Rattle.listing.proofs.PrintLaws.{lines_next, lines_end}
use Rattle.listing.proofs.print.store_lines.Goals as goal

pub loop-k-init : goal.loop-k-init
loop-k-init c = rw (add-zero c.args.at)

pub loop-k-preserved : goal.loop-k-preserved
loop-k-preserved c =
    let l = c.loop-k in
    let a = c.args in
    ap (λ (s : List ℕ). put_text s (a.at + 19 * (l.k + 1))
    (lines_text (l.k + 1) (6 - (l.k + 1)) a.coefficients.now)) c.store_line.ensures.1
    ∙ sym (lines_next l.out a.at a.coefficients.now l.k (omega arith))
    ∙ l.invariant

pub returns : goal.returns
returns c =
    let l = c.loop-k in
    (refl, sym (lines_end l.out _ c.args.coefficients.now l.k (omega arith)) ∙ l.invariant)
