-- What is asked of the window is read back from a call's numbers as it was handed on. Assumes nothing.
use mathlib.Core.Path.{◌≡◌, refl, ap}
use mathlib.Core.Bool.{Bool, true, false}
use mathlib.Core.List.{List}
use Prim.Native.Nat.{ℕ}
use Rattle.std.specs.Prelude.{Option, Some, None}
use Rattle.exact.specs.Vector.{Vector}
use Rattle.mappings.specs.declared.mapping.Kind.{Kind}
use Rattle.window.specs.Window.{window}
use Rattle.window.specs.declared.view.View.{View}
use Rattle.window.specs.declared.view.Window.{Window}
use Rattle.distort.specs.Job.{given_by}
use Rattle.distort.specs.Refusal.{view_of}
use Rattle.window.specs.View.{flag, view_by, is_given, window_or_none}
use Rattle.distort.specs.declared.job.Job.{Job}

read_back : (b : Bool) (v : Option Window)
    → ◌≡◌ {A = View} (record { bestfit = b; viewport = v }) (view_by (flag b) (flag (is_given v)) (window_or_none v))
read_back true (Some w) = refl
read_back true None = refl
read_back false (Some w) = refl
read_back false None = refl

-- the window that the call is given is the one that its view asks for
pub view_read : (kind : Kind) (coef : Vector) (width height : ℕ) (arguments background matte : List ℕ) (j : Job)
    → window kind coef width height j.view ≡ window kind coef width height
    (view_of (given_by arguments background matte j))
view_read kind coef width height arguments background matte j =
    ap (window kind coef width height) (read_back j.view.bestfit j.view.viewport)
