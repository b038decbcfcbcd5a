-- What it says that a float is an exact fraction, rounded once. `round f s a c` rounds a / c with the sign s: an
-- operation works out its exact result so, and which a and c it wrote does not matter. Assumes nothing.
use Rattle.std.specs.Prelude.{ℕ, ◌+◌, ◌-◌, ◌*◌, ◌^◌, ◌<◌, ◌≡◌, Bool, ◌&&◌, cond, T, leb, ltb, eqb, Float}
use Rattle.std.specs.Float.{Format}
use Rattle.std.specs.Float.Ieee.{prec, emax, low, round}
use Rattle.std.specs.Float.Ieee.Scale.{finite}
use Rattle.exact.specs.Fraction.{Fraction, ratio, frac, value, ◌≤F◌, ◌≈◌, abs_f, Within}

-- a / c with its sign, for a c above 0
abbrev pub signed_f : Bool → ℕ → ℕ → Fraction
signed_f s a c = cond s (ratio 0 a c) (ratio a 0 c)

-- r is X, rounded once to the format f
pub record Rounds (f : Format) (r : Float) (X : Fraction) : Type 0 where
  pub sign : Bool
  pub num : ℕ
  pub den : ℕ
  pub den_pos : 0 < den
  pub is : r ≡ round f sign num den
  pub exact : signed_f sign num den ≈ X

-- r is a number, at most e away from X, and at most b in size
pub record Close (r : Float) (X e b : Fraction) : Type 0 where
  pub number : T (finite r)
  pub near : Within (value r) X e
  pub small : abs_f (value r) ≤F b

-- the least size with all the digits that the format keeps: 2 ^ (prec - 1) of its smallest values
abbrev pub least_normal : Format → Fraction
least_normal f = frac (2 ^ (prec f - 1)) (2 ^ low f)

-- 2 ^ K of the format's smallest values, and half an ulp of the numbers below it
abbrev pub power_f : Format → ℕ → Fraction
power_f f K = frac (2 ^ K) (2 ^ low f)

abbrev pub half_ulp : Format → ℕ → Fraction
half_ulp f K = frac (2 ^ (K - prec f)) (2 ^ low f * 2)

-- b / d is 2 ^ K units, and e / g is half an ulp below it at least: a test of closed numbers, for the machine to
-- compute
abbrev pub fine : Format → ℕ → ℕ → ℕ → ℕ → ℕ → Bool
fine f K b d e g =
    leb K (low f + emax f) && (ltb 0 d
    && (ltb 0 g && (eqb (b * 2 ^ low f) (2 ^ K * d) && leb (2 ^ (K - prec f) * g) (e * (2 ^ low f * 2)))))
