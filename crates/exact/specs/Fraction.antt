-- Fractions: the exact numbers of the chain conditions and of the exact chain. A fraction is a whole number over a
-- whole number above 0, and two are compared by cross-multiplying. The whole number is the difference `plus - minus` of
-- two naturals, so that no sum or product goes by cases on signs; the denominator is `under + 1`, above 0 by its form.
-- Nothing is brought to lowest terms. Specification 11.2. Assumes nothing.
use Rattle.std.specs.Prelude.{ℕ, suc, ◌+◌, ◌-◌, ◌*◌, ◌≤◌, ◌<◌, ◌≡◌, cond, leb, ltb, ℤ, pos, negsuc, Float}
use Rattle.std.specs.Float.{nan, inf, fin}
use Rattle.std.specs.Float.Ieee.{up, down}

pub record Fraction : Type 0 where
  pub plus : ℕ
  pub minus : ℕ
  pub under : ℕ

-- the denominator
abbrev pub over : Fraction → ℕ
over x = suc x.under

-- (p - m) / d, for a d above 0
abbrev pub ratio : ℕ → ℕ → ℕ → Fraction
ratio p m d = record { plus = p; minus = m; under = d - 1 }

-- n / d, for a d above 0
abbrev pub frac : ℕ → ℕ → Fraction
frac n d = ratio n 0 d

-- a whole number
abbrev pub whole : ℤ → Fraction
whole (pos n) = ratio n 0 1
whole (negsuc n) = ratio 0 (suc n) 1

-- the fraction that a finite float's bits name: m * 2 ^ e with its sign (0 where there is none: `finite` stands beside
-- it)
abbrev pub value : Float → Fraction
value nan = ratio 0 0 1
value (inf s) = ratio 0 0 1
value (fin s m e) = cond s (ratio 0 (m * up e) (down e)) (ratio (m * up e) 0 (down e))

-- ---- comparing by cross-multiplying: (p - m) / d and (q - n) / e as p e + n d and q d + m e
infix 4 ◌≤F◌ ◌<F◌ ◌≈◌
pub record ◌≤F◌ (x y : Fraction) : Type 0 where
  pub le : x.plus * over y + y.minus * over x ≤ y.plus * over x + x.minus * over y

pub record ◌<F◌ (x y : Fraction) : Type 0 where
  pub lt : x.plus * over y + y.minus * over x < y.plus * over x + x.minus * over y

pub record ◌≈◌ (x y : Fraction) : Type 0 where
  pub eq : x.plus * over y + y.minus * over x ≡ y.plus * over x + x.minus * over y

-- ---- the operations
infixl 6 ◌+F◌ ◌-F◌
infixl 7 ◌*F◌ ◌/F◌
-- (u + 1) (v + 1) - 1
abbrev pub under_both : ℕ → ℕ → ℕ
under_both u v = u * v + u + v

unfoldable pub neg_f : Fraction → Fraction
neg_f x = record { plus = x.minus; minus = x.plus; under = x.under }

unfoldable pub ◌+F◌ : Fraction → Fraction → Fraction
x +F y = record {
  plus = x.plus * over y + y.plus * over x;
  minus = x.minus * over y + y.minus * over x;
  under = under_both x.under y.under;
}

unfoldable pub ◌-F◌ : Fraction → Fraction → Fraction
unfolding ◌+F◌ neg_f
x -F y = x +F neg_f y

unfoldable pub ◌*F◌ : Fraction → Fraction → Fraction
x *F y = record {
  plus = x.plus * y.plus + x.minus * y.minus;
  minus = x.plus * y.minus + x.minus * y.plus;
  under = under_both x.under y.under;
}

-- x / y for a y that is not 0: the denominator of y over its numerator, with the numerator's sign
unfoldable pub ◌/F◌ : Fraction → Fraction → Fraction
x /F y =
    cond (ltb y.minus y.plus)
    (ratio (x.plus * over y) (x.minus * over y) (over x * (y.plus - y.minus)))
    (ratio (x.minus * over y) (x.plus * over y) (over x * (y.minus - y.plus)))

unfoldable pub abs_f : Fraction → Fraction
abs_f x = record {
  plus = cond (leb x.minus x.plus) (x.plus - x.minus) (x.minus - x.plus);
  minus = 0;
  under = x.under;
}

-- |x - y|
unfoldable pub distance : Fraction → Fraction → Fraction
unfolding abs_f ◌-F◌
distance x y = abs_f (x -F y)

-- |x - y| ≤ e
abbrev pub Within : Fraction → Fraction → Fraction → Type 0
Within x y e = distance x y ≤F e

-- x from 0 to 1
abbrev pub Unit01 : Fraction → Type 0
Unit01 x = (frac 0 1 ≤F x) × (x ≤F frac 1 1)
