-- BilinearForward: the point (u, v) at which x = cx0 + cx1 u + cx2 v + cx3 u v and likewise y, by at most thirty Newton
-- steps from (x, y). The four coefficients cx stand first, then cy. Specification 7. Assumes nothing.
use Rattle.std.specs.Prelude.{ℕ, cond, Float}
use Rattle.std.specs.Float.{binary64}
use Rattle.std.specs.Float.Ieee.{of_bits, lt}
use Rattle.exact.specs.Double.{◌⊕◌, ◌⊖◌, ◌⊗◌, ◌⊘◌, least_divisor}
use Rattle.exact.specs.Loop.{up_to}
use Rattle.number.specs.Magnitude.{abs}
use Rattle.exact.specs.Vector.{Vector, at}
use Rattle.point.specs.declared.point.Point.{Point}
use Rattle.point.specs.Point.{point, none}
use Rattle.point.specs.Course.{Course, on, out, turn, ended}

-- a step below it is the last
abbrev pub last_step : Float
last_step = of_bits binary64 0x3e11_2e0b_e826_d695  -- 1e-9

-- how far (u, v) is from the target, and the Jacobian there
module _ (c : Vector) (x y u v : Float) where
  abbrev pub fx : Float
  fx = at c 0 ⊕ at c 1 ⊗ u ⊕ at c 2 ⊗ v ⊕ at c 3 ⊗ u ⊗ v ⊖ x

  abbrev pub fy : Float
  fy = at c 4 ⊕ at c 5 ⊗ u ⊕ at c 6 ⊗ v ⊕ at c 7 ⊗ u ⊗ v ⊖ y

  abbrev pub j00 : Float
  j00 = at c 1 ⊕ at c 3 ⊗ v

  abbrev pub j01 : Float
  j01 = at c 2 ⊕ at c 3 ⊗ u

  abbrev pub j10 : Float
  j10 = at c 5 ⊕ at c 7 ⊗ v

  abbrev pub j11 : Float
  j11 = at c 6 ⊕ at c 7 ⊗ u

  abbrev pub det : Float
  det = j00 ⊗ j11 ⊖ j01 ⊗ j10

  abbrev pub du : Float
  du = (fx ⊗ j11 ⊖ fy ⊗ j01) ⊘ det

  abbrev pub dv : Float
  dv = (fy ⊗ j00 ⊖ fx ⊗ j10) ⊘ det

  -- no point where the determinant is too small; the end where the step is below 1e-9. A NaN is neither.
  unfoldable pub newton : Course (Float × Float)
  newton =
      cond (lt (abs det) least_divisor)
      (out none)
      (cond (lt (abs du ⊕ abs dv) last_step)
      (out (point (u ⊖ du) (v ⊖ dv)))
      (on (u ⊖ du, v ⊖ dv)))

unfoldable pub newton_turn : Vector → Float → Float → ℕ → Course (Float × Float) → Course (Float × Float)
newton_turn c x y k s = turn (λ (w : Float × Float). newton c x y w.0 w.1) s

abbrev pub most_steps : ℕ
most_steps = 30

unfoldable pub bilinear_forward : Vector → Float → Float → Point
bilinear_forward c x y =
    ended (λ (w : Float × Float). point w.0 w.1) (up_to (newton_turn c x y) 0 most_steps (on (x, y)))
