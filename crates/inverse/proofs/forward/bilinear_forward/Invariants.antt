-- `inverse::forward::bilinear_forward` meets its contract. The loop's invariant: (u, v) is where the steps made lead,
-- and none of them left the loop. Each way out is one of the laws of Newton's loop. Assumes nothing.
use mathlib.Core.Path.{◌≡◌}
use Prim.Native.Nat.{◌-◌, ◌≤◌}
use Rattle.exact.specs.Loop.{up_to}
use Rattle.point.specs.Course.{on}
use Rattle.inverse.specs.Forward.{newton_turn}
use Rattle.inverse.proofs.forward.bilinear_forward.Given as goal

abbrev pub invariant-loop-steps : goal.invariant-loop-steps
invariant-loop-steps l = (on (l.u, l.v) ≡ up_to (newton_turn l.c l.x l.y) 0 l.steps (on (l.x, l.y))) × (l.steps ≤ 30)

abbrev pub decreases-loop-steps : goal.decreases-loop-steps
decreases-loop-steps l = 30 - l.steps
