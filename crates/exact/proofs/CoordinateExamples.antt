-- Coordinates at closed floats, so that no premise of their laws is empty: where pixel 3 asks at the offset -10; the
-- quotient 3 / 7 at the pixel (0, 1); and a polynomial of five terms there. Assumes nothing.
use mathlib.Core.Path.{◌≡◌, refl}
use mathlib.Core.Bool.{true, false}
use Prim.Native.Nat.{ℕ, zero, suc, ◌^◌, ◌<◌}
use lib.IntN.{pos, negsuc}
use lib.Dec.{lit≤}
use lib.Ieee.{Float, fin, binary64, add, of_bits, of_int, round, sum}
use Rattle.exact.specs.Fraction.{Fraction, frac, value, ◌≤F◌, ◌≈◌, ◌+F◌, ◌*F◌, ◌/F◌, abs_f}
use Rattle.exact.specs.Rounds.{Close}
use Rattle.exact.specs.Double.{◌⊗◌, ◌⊘◌}
use Rattle.exact.specs.Loop.{up_to, turns}
use Rattle.exact.specs.Power.{power, pow_f}
use Rattle.exact.specs.Sums.{asked, asked_f, linear, linear_f, summed, summed_f, PixelCoordinate, Linear, Term}
use Rattle.exact.proofs.Pixels.{asked_coordinate}
use Rattle.exact.proofs.Powers.{term_one, term_x, term_y, term_xy, term_monomial}
use Rattle.exact.proofs.Perspective.{perspective_close}
use Rattle.exact.proofs.Polynomial.{plus_zero, polynomial_close}

-- 3 - 10 + 0.5 = -6.5
asks : asked 3 (negsuc 9) ≡ fin true 13 (negsuc 0)
unfolding add sum round of_int of_bits
asks = refl

-- ---- the pixel (0, 1), at (0.5, 1.5)
abbrev x : Float
x = asked 0 (pos 0)

abbrev y : Float
y = asked 1 (pos 0)

abbrev X : Fraction
X = asked_f 0 (pos 0)

abbrev Y : Fraction
Y = asked_f 1 (pos 0)

at_x : PixelCoordinate x X
at_x = asked_coordinate 0 (pos 0) (lit≤ tt) (lit≤ tt)

at_y : PixelCoordinate y Y
at_y = asked_coordinate 1 (pos 0) (lit≤ tt) (lit≤ tt)

abbrev one : Float
one = fin false 1 (pos 0)

abbrev two : Float
two = fin false 1 (pos 1)

abbrev three : Float
three = fin false 3 (pos 0)

-- x + y + 1 over 2 x + 2 y + 3
above : Linear one one one X Y (frac 16384 1)
unfolding abs_f ◌*F◌ ◌+F◌
above = record {
  number_m = tt;
  number_n = tt;
  number_o = tt;
  term_x = record { le = lit≤ tt };
  term_y = record { le = lit≤ tt };
  term_1 = record { le = lit≤ tt };
}

under : Linear two two three X Y (frac 4 1)
unfolding abs_f ◌*F◌ ◌+F◌
under = record {
  number_m = tt;
  number_n = tt;
  number_o = tt;
  term_x = record { le = lit≤ tt };
  term_y = record { le = lit≤ tt };
  term_1 = record { le = lit≤ tt };
}

least : frac 1 1024 ≤F linear_f two two three X Y
unfolding ◌*F◌ ◌+F◌
least = record { le = lit≤ tt }

most : abs_f (linear_f one one one X Y /F linear_f two two three X Y) ≤F frac 16384 1
unfolding abs_f ◌*F◌ ◌+F◌ ◌/F◌
most = record { le = lit≤ tt }

pub three_sevenths : Close (linear one one one x y ⊘ linear two two three x y)
    (linear_f one one one X Y /F linear_f two two three X Y) (frac 10241 (2 ^ 38)) (frac 16385 1)
three_sevenths = perspective_close at_x at_y under least above most

exactly : linear_f one one one X Y /F linear_f two two three X Y ≈ frac 3 7
unfolding ◌*F◌ ◌+F◌ ◌/F◌
exactly = record { eq = refl }

-- ---- 1 + x + y + x y + x^3 y^2, in the places 0 to 4
abbrev monomial : ℕ → Float
monomial zero = of_bits binary64 0x3ff0_0000_0000_0000
monomial (suc zero) = x
monomial (suc (suc zero)) = y
monomial (suc (suc (suc zero))) = x ⊗ y
monomial (suc (suc (suc (suc n)))) = power x 3 ⊗ power y 2

abbrev monomial_f : ℕ → Fraction
monomial_f zero = frac 1 1
monomial_f (suc zero) = X
monomial_f (suc (suc zero)) = Y
monomial_f (suc (suc (suc zero))) = X *F Y
monomial_f (suc (suc (suc (suc n)))) = pow_f X 3 *F pow_f Y 2

terms : (k : ℕ) → k < 5 → Term (monomial k) (monomial_f k) one
terms zero h = term_one at_x at_y one tt (unfold abs_f ◌*F◌ in record { le = lit≤ tt })
terms (suc zero) h = term_x at_x at_y one tt (unfold abs_f ◌*F◌ ◌+F◌ in record { le = lit≤ tt })
terms (suc (suc zero)) h = term_y at_x at_y one tt (unfold abs_f ◌*F◌ ◌+F◌ in record { le = lit≤ tt })
terms (suc (suc (suc zero))) h = term_xy at_x at_y one tt (unfold abs_f ◌*F◌ ◌+F◌ in record { le = lit≤ tt })
terms (suc (suc (suc (suc n)))) h =
    term_monomial at_x at_y one tt 3 2 (lit≤ tt) (unfold abs_f ◌*F◌ ◌+F◌ pow_f in record { le = lit≤ tt })

total : abs_f (summed_f (λ (k : ℕ). monomial_f k *F value one) 5) ≤F frac 16384 1
unfolding abs_f ◌*F◌ ◌+F◌ pow_f up_to turns
total = record { le = lit≤ tt }

pub five_terms : Close (summed (of_bits binary64 0) (λ (k : ℕ). monomial k ⊗ one) 5)
    (summed_f (λ (k : ℕ). monomial_f k *F value one) 5) (frac 1 (2 ^ 29)) (frac 16385 1)
five_terms = polynomial_close (of_bits binary64 0) plus_zero.0 plus_zero.1 5 (lit≤ tt) monomial (λ (k : ℕ). one)
    monomial_f terms total
