-- The box around points: `min` and `max` of their coordinates, from the infinities on. Specification 6. Assumes
-- nothing.
use Rattle.std.specs.Prelude.{true, false}
use Rattle.std.specs.Float.{inf}
use Rattle.number.specs.Magnitude.{fmin, fmax}
use Rattle.window.specs.declared.edges.Corner.{Corner}
use Rattle.window.specs.declared.edges.Edges.{Edges}

unfoldable pub unbounded : Edges
unbounded = record { x0 = inf false; y0 = inf false; x1 = inf true; y1 = inf true }

unfoldable pub grown : Edges → Corner → Edges
grown e p = record {
  x0 = fmin e.x0 p.x;
  y0 = fmin e.y0 p.y;
  x1 = fmax e.x1 p.x;
  y1 = fmax e.y1 p.y;
}

unfoldable pub boxed : Corner → Corner → Corner → Corner → Edges
boxed a b c d = grown (grown (grown (grown unbounded a) b) c) d
