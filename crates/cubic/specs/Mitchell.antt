-- The kernel of Mitchell and Netravali's paper of 1988, Reconstruction Filters in Computer Graphics, in exact
-- fractions, with their parameters B and C. Specification 9.1. Assumes nothing.
use Rattle.std.specs.Prelude.{ℕ, ◌+◌, ◌*◌, Bool, cond, List, [], ◌∷◌, T, ltb, Float}
use Rattle.std.specs.Float.Ieee.Scale.{finite}
use Rattle.exact.specs.Fraction.{Fraction, over, frac, value, neg_f, ◌+F◌, ◌-F◌, ◌*F◌, abs_f, Within}

-- whether x < y, by cross-multiplying
unfoldable pub less_f : Fraction → Fraction → Bool
less_f x y = ltb (x.plus * over y + y.minus * over x) (y.plus * over x + x.minus * over y)

-- n times x
abbrev pub times : ℕ → Fraction → Fraction
times n x = frac n 1 *F x

-- a x^3 + b x^2 + d, and a x^3 + b x^2 + c x + d
abbrev pub without_linear_f : Fraction → Fraction → Fraction → Fraction → Fraction
without_linear_f a b d x = a *F (x *F x *F x) +F b *F (x *F x) +F d

abbrev pub with_linear_f : Fraction → Fraction → Fraction → Fraction → Fraction → Fraction
with_linear_f a b c d x = a *F (x *F x *F x) +F b *F (x *F x) +F c *F x +F d

-- below 1: (12 - 9 B - 6 C) x^3 + (-18 + 12 B + 6 C) x^2 + (6 - 2 B)
abbrev pub near3 : Fraction → Fraction → Fraction
near3 B C = frac 12 1 -F times 9 B -F times 6 C

abbrev pub near2 : Fraction → Fraction → Fraction
near2 B C = neg_f (frac 18 1) +F times 12 B +F times 6 C

abbrev pub near0 : Fraction → Fraction
near0 B = frac 6 1 -F times 2 B

abbrev pub near_f : Fraction → Fraction → Fraction → Fraction
near_f B C x = without_linear_f (near3 B C) (near2 B C) (near0 B) x

-- from 1 to 2: (-B - 6 C) x^3 + (6 B + 30 C) x^2 + (-12 B - 48 C) x + (8 B + 24 C)
abbrev pub far3 : Fraction → Fraction → Fraction
far3 B C = neg_f B -F times 6 C

abbrev pub far2 : Fraction → Fraction → Fraction
far2 B C = times 6 B +F times 30 C

abbrev pub far1 : Fraction → Fraction → Fraction
far1 B C = neg_f (times 12 B) -F times 48 C

abbrev pub far0 : Fraction → Fraction → Fraction
far0 B C = times 8 B +F times 24 C

abbrev pub far_f : Fraction → Fraction → Fraction → Fraction
far_f B C x = with_linear_f (far3 B C) (far2 B C) (far1 B C) (far0 B C) x

-- 1/6 of the one below 1 in magnitude, of the other from 1 to below 2, and of 0 from 2 on
unfoldable pub mitchell : Fraction → Fraction → Fraction → Fraction
mitchell B C x = frac 1 6 *F cond (less_f (abs_f x) (frac 1 1)) (near_f B C (abs_f x))
    (cond (less_f (abs_f x) (frac 2 1)) (far_f B C (abs_f x)) (frac 0 1))

-- at the four taps around a point, t being its fraction between the second and the third
abbrev pub exact_weights : Fraction → Fraction → Fraction → List Fraction
exact_weights B C t = mitchell B C (t +F frac 1 1) ∷ mitchell B C t ∷ mitchell B C (t -F frac 1 1)
    ∷ mitchell B C (t -F frac 2 1) ∷ []

-- ---- what the law of the code's weights speaks of
abbrev pub cubic_error : Fraction
cubic_error = frac 1 65536

-- w is a number within that of X
pub record NearTo (w : Float) (X : Fraction) : Type 0 where
  pub number : T (finite w)
  pub near : Within (value w) X cubic_error

-- and so is each of a list
abbrev pub NearEach : List Float → List Fraction → Type 0
NearEach [] [] = Unit {0}
NearEach [] (X ∷ Xs) = ⊥
NearEach (w ∷ ws) [] = ⊥
NearEach (w ∷ ws) (X ∷ Xs) = NearTo w X × NearEach ws Xs
