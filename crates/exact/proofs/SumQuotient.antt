-- The products' sum over the weights' sum: with the one within 9 units of X and the other within 7 of 1, the quotient
-- is within (9 + 7) / (1 - 7 units) of X, which is below 16.5 units, and half a unit for its own rounding. It is from 0
-- to 1, since the products' sum is at most the weights'. Provides, of `Sums r s X W 18 14` with W = 1 and X from 0 to
-- 1: `sum_near`, `sum_least`, `sum_positive`, `quotient`. Assumes nothing.
use mathlib.Core.Path.{refl}
use mathlib.Core.List.{[], ◌∷◌}
use native.Mathlib.Omega.{arith}
use lib.Dec.{lit≤, lit<}
use lib.Ieee.{Float, binary32}
use Rattle.exact.specs.Fraction.{Fraction, frac, value, ◌≤F◌, ◌<F◌, ◌≈◌, ◌+F◌, ◌*F◌, ◌/F◌, abs_f, Within, Unit01}
use Rattle.exact.specs.Single.{◌⊘◌}
use Rattle.exact.specs.Weighted.{Sample}
use Rattle.exact.proofs.Scale.{at_le, le_at, eq_at, at_add, common}
use Rattle.exact.proofs.Near.{le_refl, within_open, within_more}
use Rattle.exact.proofs.Products.{
  eq_refl,
  ◌⨟◌,
  back,
  at_one,
  mul_one,
  one_mul,
  mul_comm,
  mul_zero,
  le_same,
  lt_le_trans,
  unit_same,
}
use Rattle.exact.proofs.NearProducts.{abs_open, abs_unit, within_like}
use Rattle.exact.proofs.Quotients.{div_le, le_div, div_only, within_div}
use Rattle.exact.proofs.Operations.{div_rounds}
use Rattle.exact.proofs.Samples.{halves, sample_round}
use Rattle.exact.proofs.FourSum.{Sums}

-- 1 less h is at most x, where 1 is at most x and h
rest : (b x h : Fraction) → b +F h ≈ frac 1 1 → frac 1 1 ≤F x +F h → b ≤F x
rest b x h e l =
    common (b ∷ x ∷ h ∷ [])
    (λ D D0 ((_, _, B), ((_, _, X), ((_, _, H), _))). let a = eq_at D D0 (at_add B H) (at_one D) e in
    let c = le_at D D0 (at_one D) (at_add X H) l in at_le D D0 B X (omega arith))

module _ {r s : Float} {X W : Fraction} (k : Sums r s X W 18 14) (total : W ≈ frac 1 1) where
  pub sum_near : Within (value s) (frac 1 1) (halves 14)
  sum_near = within_like (eq_refl (value s)) total (eq_refl (halves 14)) k.weights.near

  -- 1 less 14 halves
  abbrev floor14 : Fraction
  floor14 = frac 33554418 33554432

  pub sum_least : floor14 ≤F value s
  sum_least = rest floor14 (value s) (halves 14) (unfold halves ◌+F◌ in record { eq = refl })
      (within_open (value s) (frac 1 1) (halves 14) sum_near).1

  pub sum_positive : frac 0 1 <F value s
  sum_positive = lt_le_trans (record { lt = lit< tt }) sum_least

  itself : X /F frac 1 1 ≈ X
  itself = div_only X (frac 1 1) X (record { lt = lit< tt }) (mul_one X)

  quotient_near : Unit01 X → Within (value r /F value s) X (halves 33)
  quotient_near u =
      within_more (value r /F value s) X ((halves 18 +F frac 1 1 *F halves 14) /F floor14) (halves 33)
      (div_le (halves 18 +F frac 1 1 *F halves 14) floor14 (halves 33) (record { lt = lit< tt })
      (unfold halves ◌+F◌ ◌*F◌ in record { le = lit≤ tt }))
      (within_like (eq_refl (value r /F value s)) itself (eq_refl ((halves 18 +F frac 1 1 *F halves 14) /F floor14))
      (within_div (value r) X (value s) (frac 1 1) (halves 18) (halves 14) floor14 (frac 1 1) (record { lt = lit< tt })
      sum_least (record { lt = lit< tt })
      (abs_unit (X /F frac 1 1) (unit_same (back itself) u)) k.products.near sum_near))

  quotient_unit : Unit01 (value r /F value s)
  quotient_unit = (
    le_div (value r) (value s) (frac 0 1) sum_positive
        (le_same (back (mul_zero (value s)) ⨟ mul_comm (value s) (frac 0 1)) (eq_refl (value r)) k.products.nonneg),
    div_le (value r) (value s) (frac 1 1) sum_positive
        (le_same (eq_refl (value r)) (back (one_mul (value s))) k.order),
  )

  pub quotient : Unit01 X → Sample (r ⊘ s) X (halves 34)
  quotient u =
      sample_round 33
      (div_rounds binary32 r s k.products.number k.weights.number
      (lt_le_trans sum_positive
      (abs_open (value s) (abs_f (value s)) (le_refl (abs_f (value s)) (abs_f (value s)))).0))
      quotient_unit (quotient_near u)
