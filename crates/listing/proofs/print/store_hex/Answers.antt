-- `listing::print::store_hex` meets its contract. The invariant: putting the digits that are left from here on gives
-- what putting all of them gave at the start. Assumes nothing.
use mathlib.Core.Path.{refl, sym, ap, ◌∙◌}
use Prim.Native.Nat.{ℕ, ◌+◌, ◌-◌}
use native.Mathlib.Nat.{add-zero}
use native.Mathlib.Omega.{arith}
use lib.ListN.{set}
use Rattle.listing.specs.Print.{put_text, hex_text}
use Rattle.listing.proofs.PrintLaws.{hex_next, hex_end}
use Rattle.listing.proofs.print.store_hex.Goals as goal

pub loop-k-init : goal.loop-k-init
loop-k-init c = rw (add-zero c.args.at)

pub loop-k-preserved : goal.loop-k-preserved
loop-k-preserved c =
    let l = c.loop-k in
    let a = c.args in
    ap (λ (d : ℕ). put_text (set l.out (a.at + l.k) d) (a.at + (l.k + 1)) (hex_text (16 - (l.k + 1)) a.n))
    c.hex_digit.ensures
    ∙ sym (hex_next l.out a.at a.n l.k (omega arith))
    ∙ l.invariant

pub returns : goal.returns
returns c =
    let l = c.loop-k in
    (refl, sym (hex_end l.out _ c.args.n l.k (omega arith)) ∙ l.invariant)
