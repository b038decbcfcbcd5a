-- Powers: in floats by repeated squaring, as the run-time routine behind Rust's `powi` makes them, where x⁵ is x times
-- (x²)²; and in exact fractions. A rounded product does not turn on the order of its two factors. Specification 4.
-- Assumes nothing.
use Rattle.std.specs.Prelude.{ℕ, zero, suc, Float}
use Rattle.exact.specs.Double.{◌⊗◌, one}
use Rattle.exact.specs.Fraction.{Fraction, frac, ◌*F◌}

abbrev pub square : Float → Float
square x = x ⊗ x

-- x to the exponents 0, 1, 2, 3, 4 and 5 in turn. One above 5 counts as 5.
unfoldable pub power : Float → ℕ → Float
power x zero = one
power x (suc zero) = x
power x (suc (suc zero)) = square x
power x (suc (suc (suc zero))) = x ⊗ square x
power x (suc (suc (suc (suc zero)))) = square (square x)
power x (suc (suc (suc (suc (suc n))))) = x ⊗ square (square x)

unfoldable pub pow_f : Fraction → ℕ → Fraction
unfolding ◌*F◌
pow_f x zero = frac 1 1
pow_f x (suc n) = x *F pow_f x n
