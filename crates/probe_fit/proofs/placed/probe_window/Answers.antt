-- `probe_fit::placed::probe_window` meets its contract: each way out is the case of the definition that the fit and the
-- window took, and the offsets are read back from their bits. Assumes nothing.
use borrow.Author.Tests.{ne_eqb}
use mathlib.Core.Path.{ap, sym, ◌∙◌}
use mir.Syntax.{w64}
use mir.ValLaws.{to_z-of_z}
use Rattle.fit.proofs.BuildLaws.{number_some}
use Rattle.mappings.specs.Mapping.{refused}
use Rattle.window.specs.Window.{refusal_of}
use Rattle.probe_fit.specs.Placed.{placed, probe_window, store_placed}
use Rattle.probe_fit.proofs.placed.probe_window.Goals as goal

pub returns-in-Err : goal.returns-in-Err
unfolding probe_window placed refused
returns-in-Err c = rw (← c.in-Err.ensures, c.number.ensures, ne_eqb _ 0 (number_some c.in-Err.r))

pub returns-in-Ok-window : goal.returns-in-Ok-window
unfolding probe_window placed
returns-in-Ok-window c =
    let view = rw (to_z-of_z w64 c.args.view_x c.ranges.view_x, to_z-of_z w64 c.args.view_y c.ranges.view_y)
    at c.of_numbers-view.ensures in
    rw (← c.in-Ok.ensures, ← view, ← c.in-Ok-window.ensures.window) c.store_window.ensures

pub returns-in-Err-window : goal.returns-in-Err-window
unfolding probe_window placed store_placed
returns-in-Err-window c =
    let view = rw (to_z-of_z w64 c.args.view_x c.ranges.view_x, to_z-of_z w64 c.args.view_y c.ranges.view_y)
    at c.of_numbers-view.ensures in
    let e = c.in-Err-window.ensures.window in
    let nine = c.number-in-Err-window.ensures ∙ c.in-Err-window.ensures.refusal ∙ ap refusal_of (sym e) in
    rw (← c.in-Ok.ensures, ← view, ← e, nine)
