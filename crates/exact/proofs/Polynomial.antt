-- A polynomial's value: up to 21 terms of size up to 16,384, each a monomial with few roundings times a coefficient,
-- added in order. No partial sum reaches 2 ^ 19, so each sum costs 2 ^ -35 at most, and each term 11 2 ^ -39. Provides:
-- `sum_terms` (terms within any e of theirs), `polynomial_close` (within 2 ^ -29, at most 16,385 in size), `plus_zero`
-- (where the code's sums start). Assumes nothing.
use Prim.Native.Nat.{ℕ, ◌^◌, ◌≤◌, ◌<◌}
use lib.Dec.{T, lit≤}
use lib.Ieee.{Float, binary64, of_bits}
use lib.Ieee.Scale.{finite}
use Rattle.exact.specs.Fraction.{Fraction, frac, value, ◌≤F◌, ◌≈◌, ◌+F◌, ◌*F◌, abs_f}
use Rattle.exact.specs.Rounds.{Close}
use Rattle.exact.specs.Double.{◌⊗◌}
use Rattle.exact.specs.Sums.{summed, summed_f, Term}
use Rattle.exact.proofs.Near.{le_refl, le_trans}
use Rattle.exact.proofs.Products.{eq_refl}
use Rattle.exact.proofs.Steps.{close_more}
use Rattle.exact.proofs.Powers.{close_size, term_close}
use Rattle.exact.proofs.Sums.{step_fine, count_mono, sum_close}

-- +0, where the code's sums start
pub plus_zero : T (finite (of_bits binary64 0)) × (value (of_bits binary64 0) ≈ frac 0 1)
unfolding of_bits
plus_zero = (tt, eq_refl (frac 0 1))

abbrev h : Fraction
h = frac 1 (2 ^ 35)

abbrev A : Fraction
A = frac 16385 1

A0 : frac 0 1 ≤F A +F h
unfolding ◌+F◌
A0 = record { le = lit≤ tt }

room : frac 21 1 *F (A +F h) ≤F frac 524288 1
unfolding ◌+F◌ ◌*F◌
room = record { le = lit≤ tt }

-- ---- from a zero of either sign
module _ (z : Float) (z0 : T (finite z)) (zv : value z ≈ frac 0 1) (n : ℕ) (few : n ≤ 21) where
  pub sum_terms : (t : ℕ → Float) (X : ℕ → Fraction) (e : Fraction) → frac 0 1 ≤F e +F h
      → ((k : ℕ) → k < n → Close (t k) (X k) e A)
      → Close (summed z t n) (summed_f X n) (frac 21 1 *F (e +F h)) (frac 524288 1)
  sum_terms t X e e0 c =
      let sizes : frac n 1 *F (A +F h) ≤F frac 524288 1 =
      le_trans (frac n 1 *F (A +F h)) (frac 21 1 *F (A +F h)) (frac 524288 1) (count_mono n 21 (A +F h) few A0)
      room in
      close_more (count_mono n 21 (e +F h) few e0) sizes
      (sum_close (step_fine binary64 1093 524288 1 1 (2 ^ 35) tt) (record { le = lit≤ tt }) z z0 zv t X e A
      (record { le = lit≤ tt }) n c sizes)

  module _ (a c : ℕ → Float) (M : ℕ → Fraction) (terms : (k : ℕ) → k < n → Term (a k) (M k) (c k)) where
    abbrev sum_f : Fraction
    sum_f = summed_f (λ (k : ℕ). M k *F value (c k)) n

    pub polynomial_close : abs_f sum_f ≤F frac 16384 1
        → Close (summed z (λ (k : ℕ). a k ⊗ c k) n) sum_f (frac 1 (2 ^ 29)) (frac 16385 1)
    polynomial_close k =
        close_size (frac 16384 1) (frac 16385 1)
        (close_more parts (le_refl (frac 524288 1) (frac 524288 1))
        (sum_terms (λ (k : ℕ). a k ⊗ c k) (λ (k : ℕ). M k *F value (c k)) (frac 11 (2 ^ 39)) part
        (λ k l. term_close (terms k l)))) k small
      where
        part : frac 0 1 ≤F frac 11 (2 ^ 39) +F h
        part = unfold ◌+F◌ in record { le = lit≤ tt }

        parts : frac 21 1 *F (frac 11 (2 ^ 39) +F h) ≤F frac 1 (2 ^ 29)
        parts = unfold ◌+F◌ ◌*F◌ in record { le = lit≤ tt }

        small : frac 16384 1 +F frac 1 (2 ^ 29) ≤F frac 16385 1
        small = unfold ◌+F◌ in record { le = lit≤ tt }
