-- `fast_colours::broad::store_three` meets its contract: at fractions from 0 to 1 the quotients are the weighted mean.
use mathlib.Core.Path.{◌≡◌, ◌∙◌}
use Prim.Native.Nat.{ℕ, ◌+◌, ◌-◌, ◌<◌}
use native.Mathlib.Omega.{arith}
use Rattle.fast_colours.proofs.InsideSpanLaws.{blend_all, mixable}
use Rattle.fast_colours.proofs.BesideLaws.{all_beside}
use Rattle.fast_colours.proofs.broad.store_three.Goals as goal

again : (n : ℕ) → 0 < n → n - 1 + 1 ≡ n
again n h = omega arith

pub store_broad-requires-clause-beside : goal.store_broad-requires-clause-beside
store_broad-requires-clause-beside c =
    let F = c.requires.fractions in
    rw (again c.args.span.n c.requires.n_nonzero.0)
    (all_beside (rw c.requires.channels_value at c.args.picture.fits) c.requires.cells_inside c.requires.by_index F.0 F.1
    c.weigh.ensures)

pub store_broad-requires-clause-mixable : goal.store_broad-requires-clause-mixable
store_broad-requires-clause-mixable c =
    let p = c.args.picture in
    let F = c.requires.fractions in
    rw (again c.args.span.n c.requires.n_nonzero.0)
    (mixable p.bytes.now p.width 3 c.args.columns.now c.args.rows.now p.height
    (rw c.requires.channels_value at p.fits) c.requires.cells_inside F.0 F.1 c.weigh.ensures)

pub returns : goal.returns
returns c =
    let p = c.args.picture in
    let span = c.args.span in
    let F = c.requires.fractions in
    rw (again span.n c.requires.n_nonzero.0) at c.store_broad.ensures
    ∙ blend_all p.bytes.now p.width 3 c.args.columns.now c.args.rows.now F.0 F.1 c.weigh.ensures span.pixel
    c.args.band.now
