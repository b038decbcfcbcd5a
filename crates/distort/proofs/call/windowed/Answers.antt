-- `windowed` meets its contract: the window is the definition's, and where there is one its limits are known.
use mathlib.Core.Path.{◌≡◌}
use mir.Syntax.{w64}
use mir.Val.{to_z, of_z}
use borrow.Author.Rules.{rules}
use Rattle.std.proofs.lemmas.Result.{err_from_is_err_and}
use Rattle.distort.proofs.PlacedLaws.{limits_of, found, not_found}
use Rattle.distort.proofs.call.windowed.Goals as goal

pub returns-in_err-w : goal.returns-in_err-w
returns-in_err-w c =
    let p = err_from_is_err_and c.from_residual.result c.from_residual.ensures.1 in
    rw (p.1, p.2) (not_found _ _ _ _ _ c.in_err-w.ensures.window c.in_err-w.ensures.refusal)

pub invariant_of-frame : goal.invariant_of-frame
invariant_of-frame c =
    let w = c.in_ok-w.w in
    let l = limits_of _ _ _ _ _ c.in_ok-w.ensures.window in
    let x : to_z w64 (of_z w64 w.x) ≡ w.x = search rules in
    let y : to_z w64 (of_z w64 w.y) ≡ w.y = search rules in
    record { near = (rw x l.0.near, rw y l.1.near) }

pub in_window-requires-clause-width_le_largest_side : goal.in_window-requires-clause-width_le_largest_side
in_window-requires-clause-width_le_largest_side c =
    let l = limits_of _ _ _ _ _ c.in_ok-w.ensures.window in (l.0.most, l.1.most)

pub returns : goal.returns
returns c =
    let w = c.in_ok-w.w in
    let x : to_z w64 (of_z w64 w.x) ≡ w.x = search rules in
    let y : to_z w64 (of_z w64 w.y) ≡ w.y = search rules in
    found _ _ _ _ _ c.in_ok-w.ensures.window x y c.in_window.ensures
