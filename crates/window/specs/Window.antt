-- The window of the output. A given viewport wins; bestfit is tried where it is asked for; else, or where it finds
-- none, the window is the picture's own at 0, 0. Whichever it is, it is refused where a side is 0 or above 4,096, an
-- offset beyond 1,048,576 either way, or an edge of bestfit's box no number. Specification 6. Assumes nothing.
use Rattle.std.specs.Prelude.{ℕ, cond, ℤ, pos, Option, Some, None}
use Rattle.std.specs.Float.{binary64}
use Rattle.std.specs.Float.Ieee.{of_int}
use Rattle.exact.specs.Vector.{Vector}
use Rattle.mappings.specs.declared.mapping.Kind.{Kind}
use Rattle.window.specs.declared.edges.Edges.{Edges}
use Rattle.window.specs.declared.extent.Extent.{Extent}
use Rattle.window.specs.declared.view.View.{View}
use Rattle.window.specs.declared.view.Window as Declared
use Rattle.window.specs.Placed.{Placed, Window, Refused}
use Rattle.window.specs.Bestfit.{bestfit}
use Rattle.window.specs.Extent.{held, extent_of}

-- ---- the number and the values of each answer; 0 is no refusal

abbrev pub refusal_of : Placed → ℕ
refusal_of (Window width height x y) = 0
refusal_of Refused = 9

abbrev pub width_of : Placed → ℕ
width_of (Window width height x y) = width
width_of Refused = 0

abbrev pub height_of : Placed → ℕ
height_of (Window width height x y) = height
height_of Refused = 0

abbrev pub x_of : Placed → ℤ
x_of (Window width height x y) = x
x_of Refused = pos 0

abbrev pub y_of : Placed → ℤ
y_of (Window width height x y) = y
y_of Refused = pos 0

-- ---- the answer

unfoldable pub of_extents : Option Extent → Option Extent → Placed
of_extents (Some a) (Some d) = Window a.length d.length a.from d.from
of_extents (Some a) None = Refused
of_extents None d = Refused

abbrev pub given : ℕ → ℕ → ℤ → ℤ → Placed
given width height x y = of_extents (held x width) (held y height)

abbrev pub around : Edges → Placed
around e = of_extents (extent_of e.x0 e.x1) (extent_of e.y0 e.y1)

-- the picture's own window
abbrev pub whole : ℕ → ℕ → Declared.Window
whole width height = record { width = width; height = height; x = pos 0; y = pos 0 }

unfoldable pub judged : Option Edges → ℕ → ℕ → Placed
judged (Some e) width height = around e
judged None width height = given width height (pos 0) (pos 0)

abbrev pub best : Kind → Vector → ℕ → ℕ → Placed
best kind coef width height = judged (bestfit kind coef (of_int binary64 (pos width)) (of_int binary64 (pos height)))
    width height

-- a viewport's window, or the other where none is given
abbrev pub given_or : Option Declared.Window → Placed → Placed
given_or (Some w) p = given w.width w.height w.x w.y
given_or None p = p

-- of a mapping's kind and coefficients, the picture's size and what is asked
unfoldable pub window : Kind → Vector → ℕ → ℕ → View → Placed
window kind coef width height v =
    given_or v.viewport (cond v.bestfit (best kind coef width height) (given width height (pos 0) (pos 0)))
