-- Sums in order, as the source coordinates are worked out: each in floats, rounded operation by operation, and in
-- exact fractions; and what a term of such a sum is. Assumes nothing.
use Rattle.std.specs.Prelude.{ℕ, ◌*◌, ◌^◌, T, ℤ, pos, Float}
use Rattle.std.specs.Float.{binary64}
use Rattle.std.specs.Float.Ieee.{of_int}
use Rattle.std.specs.Float.Ieee.Scale.{finite}
use Rattle.exact.specs.Loop.{up_to}
use Rattle.exact.specs.Double.{◌⊕◌, ◌⊗◌, half}
use Rattle.exact.specs.Fraction.{Fraction, frac, whole, value, ◌≤F◌, ◌≈◌, ◌+F◌, ◌*F◌, abs_f, Within}

-- t 0 + t 1 + .. + t (n - 1), from z, each sum rounded
abbrev pub summed : Float → (ℕ → Float) → ℕ → Float
summed z t n = up_to (λ (k : ℕ) (s : Float). s ⊕ t k) 0 n z

abbrev pub summed_f : (ℕ → Fraction) → ℕ → Fraction
summed_f t n = up_to (λ (k : ℕ) (s : Fraction). s +F t k) 0 n (frac 0 1)

-- r is a number and X times a factor at most m 2 ^ -53 away from 1; it lies from 2 ^ -k to 2 ^ (21 k) in size, as a
-- product of k coordinates does
pub record Relative (r : Float) (X : Fraction) (m k : ℕ) : Type 0 where
  pub number : T (finite r)
  pub factor : Fraction
  pub is : value r ≈ X *F factor
  pub near : Within factor (frac 1 1) (frac m (2 ^ 53))
  pub least : frac 1 (2 ^ k) ≤F abs_f (value r)
  pub most : abs_f (value r) ≤F frac (2 ^ (21 * k)) 1

-- x is the number X, from 1/2 to 2 ^ 21 in size, as a pixel's coordinates are
pub record PixelCoordinate (x : Float) (X : Fraction) : Type 0 where
  pub number : T (finite x)
  pub is : value x ≈ X
  pub least : frac 1 2 ≤F abs_f (value x)
  pub most : abs_f (value x) ≤F frac 2097152 1

-- ---- the sums of the source points
-- pixel i asks at i + offset + 0.5, the last constant
abbrev pub asked : ℕ → ℤ → Float
asked i o = of_int binary64 (pos i) ⊕ of_int binary64 o ⊕ half

abbrev pub asked_f : ℕ → ℤ → Fraction
asked_f i o = whole (pos i) +F whole o +F frac 1 2

-- m x + n y + o, and with exact coordinates
abbrev pub linear : Float → Float → Float → Float → Float → Float
linear m n o x y = m ⊗ x ⊕ n ⊗ y ⊕ o

abbrev pub linear_f : Float → Float → Float → Fraction → Fraction → Fraction
linear_f m n o X Y = value m *F X +F value n *F Y +F value o

-- the coefficients are numbers, and each term is at most b in size
pub record Linear (m n o : Float) (X Y b : Fraction) : Type 0 where
  pub number_m : T (finite m)
  pub number_n : T (finite n)
  pub number_o : T (finite o)
  pub term_x : abs_f (value m *F X) ≤F b
  pub term_y : abs_f (value n *F Y) ≤F b
  pub term_1 : abs_f (value o) ≤F b

-- how large a term of the sums for u and v may be, and u and v themselves
abbrev pub largest_term : Fraction
largest_term = frac 16384 1

-- a term of a polynomial: a is the monomial M with few roundings, c the coefficient, and their exact product is at most
-- `largest_term` in size
pub record Term (a : Float) (M : Fraction) (c : Float) : Type 0 where
  pub degree : ℕ
  pub monomial : Relative a M 10 degree
  pub number : T (finite c)
  pub size : abs_f (M *F value c) ≤F largest_term
