-- `dihyravo_distort` meets its contract: it hands on the call's answer and band, and writes the answer.
use mathlib.Core.Path.{◌≡◌, refl, ap, ◌∙◌}
use lib.IntN.{ℤ}
use mir.Syntax.{w64}
use mir.Val.{of_z, to_z}
use mir.ValLaws.{to_z-of_z}
use Rattle.distort.specs.Job.{Call, call_by}
use Rattle.window.specs.View.{view_by}
use Rattle.window.specs.declared.view.View.{View}
use Rattle.dihyravo.proofs.EntryLaws.{all_of}
use Rattle.dihyravo.proofs.call.dihyravo_distort.Goals as goal

-- the call that was made, with the view
abbrev made : goal.After-store_answer → View → Call
made s view =
    call_by s.args.picture.now s.args.arguments.now s.args.background.now s.args.matte.now
    (record {
      shape = record { width = s.args.width; height = s.args.height; channels = s.args.channels };
      method = s.args.method;
      policy = s.args.policy;
      interpolation = s.args.interpolation;
      view = view;
      rows = record { first = s.args.first_row; count = s.args.rows };
    }) s.args.band.now

-- the view by the call's numbers, with the viewport at x and y
abbrev asked : goal.After-store_answer → ℤ → ℤ → View
asked s x y =
    view_by s.args.bestfit s.args.viewport
    (record { width = s.args.view_width; height = s.args.view_height; x = x; y = y })

-- a number with its sign comes back as it was
same : (s : goal.After-store_answer) {v : View}
    → v ≡ asked s (to_z w64 (of_z w64 s.args.view_x)) (to_z w64 (of_z w64 s.args.view_y))
    → made s v ≡ made s (asked s s.args.view_x s.args.view_y)
same s e = ap (made s) (e
    ∙ (λ i. asked s (to_z-of_z w64 s.args.view_x s.ranges.view_x i) (to_z-of_z w64 s.args.view_y s.ranges.view_y i)))

pub returns : goal.returns
returns c =
    let done = c.distort-answered.ensures in
    let put = c.store_answer.ensures in record {
      answer_after = all_of (same c c.of_numbers-view.ensures) c.args.answer.now done.0 done.1 put.0
          put.1;
      lent_kept = (refl, (refl, (refl, refl)));
    }
