-- The greatest misfit of a mapping: the largest difference between a pair and where the mapping takes it, over the pairs
-- in their order. Assumes nothing.
use Rattle.std.specs.Prelude.{ℕ, ◌+◌, Bool, true, false, cond, Float}
use Rattle.exact.specs.Double.{◌⊕◌, ◌⊖◌, ◌⊗◌}
use Rattle.exact.specs.Loop.{up_to}
use Rattle.exact.specs.Vector.{Vector, at}
use Rattle.number.specs.Magnitude.{abs, fmax}
use Rattle.linear.specs.Matrix.{nought}
use Rattle.mappings.specs.declared.mapping.Kind.{Kind}
use Rattle.mappings.specs.declared.mapping.Kind.TheVariants.{
  Nothing,
  Affine,
  Perspective,
  Poly,
  BilinearForward,
  Barrel,
  BarrelInverse,
  Shepards,
}
use Rattle.mappings.specs.declared.mapping.Mapping.{Mapping}
use Rattle.mappings.specs.declared.pair.Pair.{Pair}
use Rattle.mappings.specs.Pairs.{pair_at}
use Rattle.point.specs.declared.point.Point.{Point}
use Rattle.inverse.specs.Inverse.{inverse}

-- where the fit takes (u, v): x by the four coefficients from place 0 on, y by those from place 4 on
abbrev pub bilinear_sum : Vector → ℕ → Float → Float → Float
bilinear_sum c k u v = at c k ⊕ at c (k + 1) ⊗ u ⊕ at c (k + 2) ⊗ v ⊕ at c (k + 3) ⊗ u ⊗ v

-- worst.max((a - c).abs()).max((b - d).abs()): a difference that is a NaN is passed over, and so is a point that is
-- none, whose coordinates are NaNs
abbrev pub farther : Float → Float → Float → Float → Float → Float
farther worst a b c d = fmax (fmax worst (abs (a ⊖ c))) (abs (b ⊖ d))

-- u and v against the source point
abbrev pub farther_back : Pair → Point → Float → Float
farther_back p source worst = farther worst p.u p.v source.u source.v

-- x and y against where `BilinearForward` takes u and v
abbrev pub farther_forward : Pair → Vector → Float → Float
farther_forward p c worst =
    farther worst p.x p.y (bilinear_sum c 0 p.u p.v) (bilinear_sum c 4 p.u p.v)

-- whether a kind is fitted from the picture to the output
abbrev pub forward : Kind → Bool
forward Nothing = false
forward BilinearForward = true
forward Affine = false
forward Perspective = false
forward Poly = false
forward Barrel = false
forward BarrelInverse = false
forward Shepards = false

-- a pair by a mapping, whose source point is taken at the pair's own x and y
unfoldable pub missed : Kind → ℕ → ℕ → Vector → Pair → Float → Float
missed kind order count coef p worst =
    cond (forward kind)
    (farther_forward p coef worst)
    (farther_back p (inverse kind order count coef p.x p.y) worst)

-- the pair numbered j of those after `skip` arguments
unfoldable pub missed_at : Kind → ℕ → ℕ → Vector → Vector → ℕ → ℕ → Float → Float
missed_at kind order count coef values skip j worst = missed kind order count coef (pair_at values skip j) worst

-- over the first `pairs` of them, from +0
unfoldable pub misfit : Mapping → Vector → ℕ → ℕ → Float
misfit m values skip pairs =
    up_to (missed_at m.kind m.order m.count m.coef values skip) 0 pairs nought
