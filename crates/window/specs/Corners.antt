-- Where the corners (0, 0), (w, 0), (0, h) and (w, h) of the picture come to lie in the output, under the inverted
-- mapping f, and the box around them. Specification 6. Assumes nothing.
use Rattle.std.specs.Prelude.{ℕ, ◌+◌, Bool, ◌||◌, ◌≡◌, Float}
use Rattle.std.specs.Float.Ieee.{lt}
use Rattle.exact.specs.Double.{◌⊕◌, ◌⊗◌, ◌⊘◌, least_divisor}
use Rattle.number.specs.Magnitude.{abs}
use Rattle.exact.specs.Vector.{Vector, at}
use Rattle.linear.specs.Matrix.{nought}
use Rattle.window.specs.declared.edges.Corner.{Corner}
use Rattle.window.specs.declared.edges.Edges.{Edges}
use Rattle.window.specs.Edges.{boxed}

-- ---- the box, each corner by a rule

-- the box around corners that the rule allows
pub record Around (rule : Float → Float → Corner → Type 0) (w h : Float) (e : Edges) : Type 0 where
  pub a : Corner
  pub b : Corner
  pub c : Corner
  pub d : Corner
  pub at_a : rule nought nought a
  pub at_b : rule w nought b
  pub at_c : rule nought h c
  pub at_d : rule w h d
  pub is : e ≡ boxed a b c d

-- f[k] * u + f[k + 1] * v + f[k + 2]
abbrev pub form : Vector → ℕ → Float → Float → Float
form f k u v = at f k ⊗ u ⊕ at f (k + 1) ⊗ v ⊕ at f (k + 2)

-- ---- u, v by an affine map

abbrev pub affine_corner : Vector → Float → Float → Corner
affine_corner f u v = record { x = form f 0 u v; y = form f 3 u v }

abbrev pub affine_edges : Vector → Float → Float → Edges
affine_edges f w h = boxed (affine_corner f nought nought) (affine_corner f w nought) (affine_corner f nought h)
    (affine_corner f w h)

-- ---- u, v by a homography

abbrev pub forward_wq : Vector → Float → Float → Float
forward_wq f u v = form f 6 u v

abbrev pub lost : Vector → Float → Float → Bool
lost f u v = lt (abs (forward_wq f u v)) least_divisor

abbrev pub any_lost : Vector → Float → Float → Bool
any_lost f w h = lost f nought nought || lost f w nought || lost f nought h || lost f w h

abbrev pub perspective_corner : Vector → Float → Float → Corner
perspective_corner f u v = record { x = form f 0 u v ⊘ forward_wq f u v; y = form f 3 u v ⊘ forward_wq f u v }

abbrev pub perspective_edges : Vector → Float → Float → Edges
perspective_edges f w h =
    boxed (perspective_corner f nought nought) (perspective_corner f w nought) (perspective_corner f nought h)
    (perspective_corner f w h)
