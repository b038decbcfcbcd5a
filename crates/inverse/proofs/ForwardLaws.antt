-- Newton's loop as the code leaves it: each way through a step is the case of the definition that its tests take, and
-- once it is left no turn changes anything. Assumes nothing.
use mathlib.Core.Path.{◌≡◌, refl, sym, ap, ◌∙◌}
use mathlib.Core.Bool.{true, false}
use Prim.Native.Nat.{ℕ, ◌+◌, ◌≤◌, ◌<◌}
use native.Mathlib.Omega.{arith}
use lib.Ieee.{Float, lt}
use Rattle.exact.specs.Double.{◌⊕◌, ◌⊖◌, least_divisor}
use Rattle.exact.specs.Loop.{up_to}
use Rattle.exact.proofs.Loop.{up_to_next, up_to_last, up_to_stay}
use Rattle.number.specs.Magnitude.{abs}
use Rattle.exact.specs.Vector.{Vector}
use Rattle.point.specs.declared.point.Point.{Point}
use Rattle.point.specs.Point.{point, none}
use Rattle.point.specs.Course.{Course, on, out, turn, ended}
use Rattle.inverse.specs.Forward.{last_step, det, du, dv, newton, newton_turn, bilinear_forward}

-- a step, by its two tests; d, p and q are what the code's calls of `abs` gave
module _ (c : Vector) (x y u v d : Float) (ed : d ≡ abs (det c x y u v)) where
  pub newton_none : lt d least_divisor ≡ true → newton c x y u v ≡ out none
  unfolding newton
  newton_none t = rw (← ed, t)

  module _ (p q : Float) (ep : p ≡ abs (du c x y u v)) (eq : q ≡ abs (dv c x y u v))
      (t : lt d least_divisor ≡ false) where
    pub newton_out : lt (p ⊕ q) last_step ≡ true
        → newton c x y u v ≡ out (point (u ⊖ du c x y u v) (v ⊖ dv c x y u v))
    unfolding newton
    newton_out s = rw (← ed, t, ← ep, ← eq, s)

    pub newton_on : lt (p ⊕ q) last_step ≡ false
        → newton c x y u v ≡ on (u ⊖ du c x y u v, v ⊖ dv c x y u v)
    unfolding newton
    newton_on s = rw (← ed, t, ← ep, ← eq, s)

-- the loop, at (u, v) after k turns
module _ (c : Vector) (x y u v : Float) (k : ℕ) (h : on (u, v) ≡ up_to (newton_turn c x y) 0 k (on (x, y))) where
  pub newton_next : {s : Course (Float × Float)} → newton c x y u v ≡ s
      → s ≡ up_to (newton_turn c x y) 0 (k + 1) (on (x, y))
  unfolding newton_turn turn
  newton_next e = sym e ∙ up_to_next (newton_turn c x y) 0 (on (x, y)) k (omega arith) h

  pub newton_leaves : (p : Point) → k < 30 → newton c x y u v ≡ out p → p ≡ bilinear_forward c x y
  unfolding bilinear_forward ended newton_turn turn
  newton_leaves p l e =
      ap (ended (λ (w : Float × Float). point w.0 w.1))
      (up_to_stay (newton_turn c x y) 0 (on (x, y)) (k + 1) 30 (omega arith) (omega arith) (λ j. refl) (newton_next e))

  pub newton_ends : k ≤ 30 → 30 ≤ k → point u v ≡ bilinear_forward c x y
  unfolding bilinear_forward ended
  newton_ends a b = ap (ended (λ (w : Float × Float). point w.0 w.1))
      (up_to_last (newton_turn c x y) 0 (on (x, y)) k 30 a b h)
