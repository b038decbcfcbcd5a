-- What is asked of the window, by the numbers of a call. Specification 1.1. Assumes nothing.
use Rattle.std.specs.Prelude.{ℕ, Bool, true, false, cond, not, ◌==◌, pos, Option, Some, None}
use Rattle.window.specs.declared.view.View.{View}
use Rattle.window.specs.declared.view.Window.{Window}

-- of bestfit and viewport: 0 is no, anything else yes
abbrev pub yes : ℕ → Bool
yes n = not (n == 0)

-- and back, as a call's numbers are made out of a record
abbrev pub flag : Bool → ℕ
flag b = cond b 1 0

-- by the numbers of a call: a viewport that is not given does not count
abbrev pub view_by : ℕ → ℕ → Window → View
view_by bestfit viewport w = record { bestfit = yes bestfit; viewport = cond (yes viewport) (Some w) None }

-- whether a viewport is given, and its numbers, none where it is not
abbrev pub is_given : Option Window → Bool
is_given (Some w) = true
is_given None = false

abbrev pub window_or_none : Option Window → Window
window_or_none (Some w) = w
window_or_none None = record { width = 0; height = 0; x = pos 0; y = pos 0 }
