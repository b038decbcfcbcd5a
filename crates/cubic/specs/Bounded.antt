-- A float of bounded magnitude. Assumes nothing.
use Rattle.std.specs.Prelude.{T, Float}
use Rattle.std.specs.Float.Ieee.Scale.{finite}
use Rattle.exact.specs.Fraction.{Fraction, value, ◌≤F◌, abs_f}

-- x is a number of at most b in magnitude
pub record Bounded (b : Fraction) (x : Float) : Type 0 where
  pub number : T (finite x)
  pub size : abs_f (value x) ≤F b
