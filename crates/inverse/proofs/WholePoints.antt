-- Every mapping's point is `point` of its own coordinates: each mapping ends in `point` or in `none`, and so does a
-- loop that is left in the middle. Assumes nothing.
use Prim.Native.Nat.{ℕ, ◌+◌, ◌*◌, zero-le}
use lib.Ieee.{Float, le, lt}
use Rattle.exact.specs.Double.{◌⊕◌, ◌⊖◌, ◌⊘◌, least_divisor}
use Rattle.exact.specs.Sums.{linear}
use Rattle.exact.proofs.Loop.{up_to_keep}
use Rattle.number.specs.Magnitude.{abs}
use Rattle.exact.specs.Vector.{Vector, at}
use Rattle.mappings.specs.declared.mapping.Kind.{Kind}
use Rattle.mappings.specs.declared.mapping.Kind.TheVariants.{
  Nothing,
  Affine,
  Perspective,
  Poly,
  BilinearForward,
  Barrel,
  BarrelInverse,
  Shepards,
}
use Rattle.point.specs.Point.{point, Whole}
use Rattle.point.specs.Course.{on}
use Rattle.exact.proofs.Booleans.{either}
use Rattle.point.proofs.WholeLaws.{
  point_whole,
  none_whole,
  unless_whole,
  Leaves,
  goes,
  left,
  turn_leaves,
  ended_whole,
}
use Rattle.inverse.specs.Perspective.{wq, perspective}
use Rattle.inverse.specs.Forward.{last_step, det, du, dv, newton, newton_turn, bilinear_forward}
use Rattle.inverse.specs.Shepards.{shepards, PairSums, d2, add_pair, pair_turn, zero_sums, moved_by, of_pairs, pairs_kept}
use Rattle.inverse.specs.Affine.{affine}
use Rattle.inverse.specs.Polynomial.{polynomial}
use Rattle.inverse.specs.Barrel.{across, down, radius_squared, factor, barrel_from, barrel_inverse_from}
use Rattle.inverse.specs.Inverse.{inverse}
use Rattle.number.specs.Root.{root}

-- ---- BilinearForward
newton_leaves : (c : Vector) (x y u v : Float) → Leaves (newton c x y u v)
unfolding newton
newton_leaves c x y u v =
    either Leaves (lt (abs (det c x y u v)) least_divisor) (left none_whole)
    (either Leaves (lt (abs (du c x y u v) ⊕ abs (dv c x y u v)) last_step)
    (left (point_whole (u ⊖ du c x y u v) (v ⊖ dv c x y u v)))
    (goes _))

pub forward_whole : (c : Vector) (x y : Float) → Whole (bilinear_forward c x y)
unfolding bilinear_forward newton_turn
forward_whole c x y =
    ended_whole (λ (w : Float × Float). point w.0 w.1) (λ w. point_whole w.0 w.1) _
    (up_to_keep (newton_turn c x y) 0 (on (x, y)) Leaves 30 zero-le
    (λ j s a b h. turn_leaves (λ (w : Float × Float). newton c x y w.0 w.1)
    (λ w. newton_leaves c x y w.0 w.1) s h) (goes (x, y)))

-- ---- Shepards
pair_leaves : (c : Vector) (x y : Float) (k : ℕ) (s : PairSums) → Leaves (add_pair c x y k s)
unfolding add_pair
pair_leaves c x y k s =
    either Leaves (lt (d2 c x y k) least_divisor)
    (left (point_whole (at c k) (at c (k + 1)))) (goes _)

pairs_whole : (c : Vector) (x y : Float) (n : ℕ) → Whole (of_pairs c x y n)
unfolding of_pairs pair_turn
pairs_whole c x y n =
    ended_whole (moved_by x y) (λ s. point_whole (x ⊕ s.su ⊘ s.sw) (y ⊕ s.sv ⊘ s.sw)) _
    (up_to_keep (pair_turn c x y) 0 (on zero_sums) Leaves n zero-le
    (λ j s a b h. turn_leaves (add_pair c x y (4 * j)) (pair_leaves c x y (4 * j)) s h) (goes zero_sums))

-- ---- the others
pub affine_whole : (m : Vector) (x y : Float) → Whole (affine m x y)
affine_whole m x y = point_whole _ _

pub perspective_whole : (m : Vector) (x y : Float) → Whole (perspective m x y)
unfolding perspective
perspective_whole m x y =
    unless_whole (le (wq m x y) least_divisor)
    (linear (at m 0) (at m 1) (at m 2) x y ⊘ wq m x y)
    (linear (at m 3) (at m 4) (at m 5) x y ⊘ wq m x y)

pub polynomial_whole : (order : ℕ) (m : Vector) (x y : Float) → Whole (polynomial order m x y)
unfolding polynomial
polynomial_whole order m x y = point_whole _ _

pub barrel_whole : (c : Vector) (dy dx r : Float) → Whole (barrel_from c dy dx r)
unfolding barrel_from
barrel_whole c dy dx r = point_whole _ _

pub barrel_inverse_whole : (c : Vector) (dy dx r : Float) → Whole (barrel_inverse_from c dy dx r)
unfolding barrel_inverse_from
barrel_inverse_whole c dy dx r = unless_whole (lt (abs (factor c r)) least_divisor) _ _

pub shepards_whole : (count : ℕ) (c : Vector) (x y : Float) → Whole (shepards count c x y)
shepards_whole count c x y = pairs_whole c x y (pairs_kept count)

-- ---- by the kind
abbrev radius : Vector → Float → Float → Float
radius c x y = root (radius_squared (across c x) (down c y))

pub inverse_whole : (kind : Kind) (order count : ℕ) (coef : Vector) (x y : Float)
    → Whole (inverse kind order count coef x y)
unfolding inverse
inverse_whole Nothing order count coef x y = none_whole
inverse_whole Affine order count coef x y = affine_whole coef x y
inverse_whole Perspective order count coef x y = perspective_whole coef x y
inverse_whole Poly order count coef x y = polynomial_whole order coef x y
inverse_whole BilinearForward order count coef x y = forward_whole coef x y
inverse_whole Barrel order count coef x y = barrel_whole coef (down coef y) (across coef x) (radius coef x y)
inverse_whole BarrelInverse order count coef x y =
    barrel_inverse_whole coef (down coef y) (across coef x) (radius coef x y)
inverse_whole Shepards order count coef x y = shepards_whole count coef x y
