-- `fast_points::points::points` meets its contract: each way out is the span of the kind that the arm has.
use lib.IntN.{ℤ, pos, negsuc, nat_abs}
use lib.Ieee.{Float, binary64, of_int}
use mir.Syntax.{w64}
use mir.Val.{to_z, of_z, SFits}
use mir.ValLaws.{to_z-of_z}
use Rattle.exact.specs.Sums.{asked}
use Rattle.inverse.specs.Inverse.{inverse}
use borrow.Author.Rules.{rules}
use Rattle.fast_points.proofs.PointsLaws.{points_by}
use mathlib.Core.Path.{◌≡◌, ap, ◌∙◌}
use Rattle.std.proofs.Common.{ℕ, ◌≤◌, ◌<◌, ◌^◌, arith}
use Rattle.fast_points.proofs.points.points.Goals as goal

-- an offset that is near fits
fit : (x : ℤ) → nat_abs x ≤ 1048576 → SFits w64 x
fit (pos n) h = record { sfits = below n h }
  where
    below : (n : ℕ) → n ≤ 1048576 → n < 2 ^ 63
    below n h = omega arith
fit (negsuc n) h = record { sfits = below n h }
  where
    below : (n : ℕ) → n < 1048576 → n < 2 ^ 63
    below n h = omega arith

-- the offset and the row's middle, as floats, are those of the frame, whose offsets are read back from their bits
across : (x : ℤ) (a : Float) → a ≡ of_int binary64 (to_z w64 (of_z w64 x)) → nat_abs x ≤ 1048576 → a ≡ of_int binary64 x
across x a e h = e ∙ ap (λ (z : ℤ). of_int binary64 z) (to_z-of_z w64 x (fit x h))

down : (j : ℕ) (y : ℤ) (b : Float) → b ≡ asked j (to_z w64 (of_z w64 y)) → nat_abs y ≤ 1048576 → b ≡ asked j y
down j y b e h = e ∙ ap (λ (z : ℤ). asked j z) (to_z-of_z w64 y (fit y h))

pub returns-in-Affine : goal.returns-in-Affine
unfolding inverse
returns-in-Affine c = points_by c.args.frame _ _ _
    (across _ _ c.offset-x.ensures c.args.frame.near.0)
    (down _ _ _ c.asked-y.ensures c.args.frame.near.1)
    c.keep_row.ensures
    (λ z p e. rw c.in-Affine.is (search rules))

pub returns-in-Perspective : goal.returns-in-Perspective
unfolding inverse
returns-in-Perspective c = points_by c.args.frame _ _ _
    (across _ _ c.offset-x.ensures c.args.frame.near.0)
    (down _ _ _ c.asked-y.ensures c.args.frame.near.1)
    c.keep_row-in-Perspective.ensures
    (λ z p e. rw c.in-Perspective.is (search rules))

pub returns-in-Poly : goal.returns-in-Poly
unfolding inverse
returns-in-Poly c = points_by c.args.frame _ _ _
    (across _ _ c.offset-x.ensures c.args.frame.near.0)
    (down _ _ _ c.asked-y.ensures c.args.frame.near.1)
    c.keep_row-in-Poly.ensures
    (λ z p e. rw c.in-Poly.is (search rules))

pub returns-in-BilinearForward : goal.returns-in-BilinearForward
unfolding inverse
returns-in-BilinearForward c = points_by c.args.frame _ _ _
    (across _ _ c.offset-x.ensures c.args.frame.near.0)
    (down _ _ _ c.asked-y.ensures c.args.frame.near.1)
    c.keep_row-in-BilinearForward.ensures
    (λ z p e. rw c.in-BilinearForward.is (search rules))

pub returns-in-Barrel : goal.returns-in-Barrel
unfolding inverse
returns-in-Barrel c = points_by c.args.frame _ _ _
    (across _ _ c.offset-x.ensures c.args.frame.near.0)
    (down _ _ _ c.asked-y.ensures c.args.frame.near.1)
    c.barrel_points.ensures
    (λ z p e. rw c.in-Barrel.is (search rules))

pub returns-in-BarrelInverse : goal.returns-in-BarrelInverse
unfolding inverse
returns-in-BarrelInverse c = points_by c.args.frame _ _ _
    (across _ _ c.offset-x.ensures c.args.frame.near.0)
    (down _ _ _ c.asked-y.ensures c.args.frame.near.1)
    c.barrel_points-in-BarrelInverse.ensures
    (λ z p e. rw c.in-BarrelInverse.is (search rules))

pub returns-in-Nothing : goal.returns-in-Nothing
returns-in-Nothing c = points_by c.args.frame _ _ _
    (across _ _ c.offset-x.ensures c.args.frame.near.0)
    (down _ _ _ c.asked-y.ensures c.args.frame.near.1)
    c.keep_row-in-Nothing.ensures
    (λ z p e. search rules)
