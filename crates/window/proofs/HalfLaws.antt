-- Half a pixel takes no f64 number to an infinity: |x ± 1/2| is at most the largest number plus 1/2, whose rounded sum
-- is a number, and a rounding of less is one too. Assumes nothing.
use Rattle.std.proofs.Common.{◌≡◌, ℕ, ◌+◌, ◌*◌, ◌<◌, Bool, false, T, ℤ, negsuc, sym, refl, subst, le_refl, arith, lit≤, le→leb}
use lib.Ieee.{
  Float,
  nan,
  inf,
  fin,
  binary64,
  up,
  down,
  le,
  add,
  sub,
  sum,
  round,
  units,
  odd,
  size,
  span,
  climb,
  neg,
  fits,
  of_bits,
  of_fields,
  to_bits,
}
use lib.Ieee.Bits.{of_bits-to_bits, is_true}
use lib.Ieee.Fits.{down_pos}
use lib.Ieee.Scale.{finite}
use Rattle.exact.specs.Double.{◌⊕◌, ◌⊖◌}
use Rattle.exact.specs.Fraction.{Fraction, value, abs_f, ◌≤F◌, ◌+F◌}
use Rattle.exact.specs.Rounds.{Rounds}
use Rattle.exact.proofs.Scale.{at_le, at_ratio}
use Rattle.exact.proofs.Near.{le_trans}
use Rattle.exact.proofs.Magnitude.{sized_signed, abs_sized}
use Rattle.exact.proofs.Signed.{le_value}
use Rattle.exact.proofs.Steps.{abs_add, abs_sub}
use Rattle.exact.proofs.Ranges.{abs_grow}
use Rattle.exact.proofs.Operations.{add_rounds, sub_rounds}
use Rattle.exact.proofs.Monotone.{rounds_finite}
use Rattle.exact.proofs.PatternOrder.{pattern_order}
use Rattle.exact.proofs.FloatPatterns.{finite_bits}
use Rattle.number.proofs.MagnitudeLaws.{abs_fits}
use Rattle.number.specs.Magnitude.{abs}
use Rattle.window.specs.Extent.{half}

-- the largest number
abbrev most : Float
most = of_bits binary64 0x7fef_ffff_ffff_ffff

-- ---- |x| is at most it
under_most : (m : ℕ) (e : ℤ) → T (fits binary64 (fin false m e)) → T (le (fin false m e) most)
under_most m e t = by_bits (to_bits binary64 (fin false m e)) (finite_bits binary64 false m e t)
    (of_bits-to_bits binary64 (fin false m e) t)
  where
    by_bits : (b : ℕ) → b < 9218868437227405312 → of_bits binary64 b ≡ fin false m e → T (le (fin false m e) most)
    by_bits b h i =
        subst (λ (y : Float). T (le y most)) i
        (subst T (sym (pattern_order binary64 b 0x7fef_ffff_ffff_ffff (omega arith) (lit≤ tt)))
        (le→leb b 0x7fef_ffff_ffff_ffff (omega arith)))

size_own : (s : Bool) (m : ℕ) (e : ℤ) → abs_f (value (fin s m e)) ≤F value (fin false m e)
size_own s m e =
    at_le (down e) (down_pos e)
    (abs_sized (down e) (down_pos e) s (m * up e) (sized_signed s (m * up e) (down e) (down_pos e)))
    (at_ratio (m * up e) 0 (down e) (down_pos e)) (le_refl (m * up e + 0))

number : T (finite most)
unfolding of_bits
number = tt

size_most : (s : Bool) (m : ℕ) (e : ℤ) → T (fits binary64 (fin s m e)) → abs_f (value (fin s m e)) ≤F value most
size_most s m e t =
    le_trans (abs_f (value (fin s m e))) (value (fin false m e)) (value most) (size_own s m e)
    ((le_value (fin false m e) most tt number).0 (under_most m e (unfold abs in abs_fits binary64 (fin s m e) t)))

-- ---- the sum with 1/2
half_number : T (finite half)
unfolding of_bits
half_number = tt

half_own : abs_f (value half) ≤F value half
unfolding of_bits
half_own = size_own false 1 (negsuc 0)

sum_number : T (finite (most ⊕ half))
unfolding add sum round units odd size span climb of_bits of_fields
sum_number = tt

-- what is at most the largest number plus 1/2 in size rounds to a number
no_more : {r : Float} {X : Fraction} → Rounds binary64 r X → abs_f X ≤F value most +F value half → T (finite r)
no_more {r} {X} R h =
    rounds_finite R (add_rounds binary64 most half number half_number) sum_number
    (le_trans (abs_f X) (value most +F value half) (abs_f (value most +F value half)) h
    (abs_grow (value most +F value half)))

pub less_half : (x : Float) → T (fits binary64 x) → finite (x ⊖ half) ≡ finite x
less_half nan t = unfold sub add in refl
less_half (inf s) t = unfold sub add neg of_bits in refl
less_half (fin s m e) t =
    is_true (finite (fin s m e ⊖ half))
    (no_more (sub_rounds binary64 (fin s m e) half tt half_number)
    (abs_sub (value (fin s m e)) (value half) (value most) (value half) (size_most s m e t) half_own))

pub more_half : (x : Float) → T (fits binary64 x) → finite (x ⊕ half) ≡ finite x
more_half nan t = unfold add in refl
more_half (inf s) t = unfold add of_bits in refl
more_half (fin s m e) t =
    is_true (finite (fin s m e ⊕ half))
    (no_more (add_rounds binary64 (fin s m e) half tt half_number)
    (abs_add (value (fin s m e)) (value half) (value most) (value half) (size_most s m e t) half_own))
