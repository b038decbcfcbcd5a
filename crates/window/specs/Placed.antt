-- A window that is placed: its size and where it lies, or refusal 9. Assumes nothing.
use Rattle.std.specs.Prelude.{ℕ, ℤ, Option, Some, None, Result, Ok, Err}
use Rattle.refusals.specs.declared.Refusal.{Refusal}
use Rattle.window.specs.declared.view.Window as Declared

pub data Placed : Type 0 where
  Window : ℕ → ℕ → ℤ → ℤ → Placed
  Refused : Placed

-- what the code's answers stand for
abbrev pub placed : Option Declared.Window → Placed
placed (Some w) = Window w.width w.height w.x w.y
placed None = Refused

abbrev pub placed_by : Result Declared.Window Refusal → Placed
placed_by (Ok w) = Window w.width w.height w.x w.y
placed_by (Err r) = Refused
