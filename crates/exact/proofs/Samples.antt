-- Samples from 0 to 1, step by step: one rounding of a value from 0 to 1 keeps it there and adds half a unit of 2 ^
-- -24; a product of two such values adds their errors. Errors are counted in halves of a unit, so that a chain's error
-- is a sum of numerals. Provides: `halves`, `at_halves`, `halves_add`, `halves_le`, `halves_nonneg`, `halves_units`; of
-- `one` and `zero`: `one_number`, `one_value`, `zero_number`, `zero_value`; `sample_own`, `sample_more`,
-- `sample_along`, `sample_round`, `sample_rest` (1 - t), `sample_mul`. Assumes nothing.
use mathlib.Core.Path.{refl}
use Prim.Native.Nat.{ℕ, ◌+◌, ◌*◌, ◌^◌, ◌≤◌, ◌<◌}
use native.Mathlib.Omega.{arith}
use lib.Dec.{T, lit<}
use lib.Ieee.{Float, binary32, of_bits}
use lib.Ieee.Scale.{finite}
use Rattle.exact.specs.Fraction.{Fraction, frac, value, ◌≤F◌, ◌≈◌, ◌+F◌, ◌-F◌, ◌*F◌, Within, Unit01}
use Rattle.exact.specs.Rounds.{Rounds}
use Rattle.exact.specs.Single.{◌⊖◌, ◌⊗◌, zero}
use Rattle.exact.specs.Weighted.{one, units24, Unit32, Sample}
use Rattle.exact.proofs.Scale.{At, at_le, at_eq, at_ratio, at_add}
use Rattle.exact.proofs.Near.{within_same, within_more, within_trans}
use Rattle.exact.proofs.Products.{eq_refl, at_zero, sub_same, unit_mul, unit_rest}
use Rattle.exact.proofs.NearProducts.{abs_unit, within_like, within_mul_unit}
use Rattle.exact.proofs.Rounds.{rounds_along}
use Rattle.exact.proofs.Monotone.{rounds_fits}
use Rattle.exact.proofs.Operations.{sub_rounds, mul_rounds}
use Rattle.exact.proofs.Bounds.{rounds_unit, within32_0}

-- ---- n halves of a unit
unfoldable pub halves : ℕ → Fraction
halves n = frac n (2 ^ 25)

pub two_25 : 0 < 2 ^ 25
two_25 = lit< tt

pub at_halves : (n : ℕ) → At (2 ^ 25) (halves n) n 0
unfolding halves
at_halves n = at_ratio n 0 (2 ^ 25) two_25

pub halves_add : (m n : ℕ) → halves m +F halves n ≈ halves (m + n)
halves_add m n = at_eq (2 ^ 25) two_25 (at_add (at_halves m) (at_halves n)) (at_halves (m + n)) (omega arith)

pub halves_le : (m n : ℕ) → m ≤ n → halves m ≤F halves n
halves_le m n h = at_le (2 ^ 25) two_25 (at_halves m) (at_halves n) (omega arith)

pub halves_nonneg : (n : ℕ) → frac 0 1 ≤F halves n
halves_nonneg n = at_le (2 ^ 25) two_25 (at_zero (2 ^ 25)) (at_halves n) (omega arith)

pub halves_units : (n : ℕ) → halves (n * 2) ≈ units24 n
halves_units n = at_eq (2 ^ 24 * 2) two_25 (at_halves (n * 2)) (go n) refl
  where
    go : (n : ℕ) → At (2 ^ 24 * 2) (units24 n) (n * 2) 0
    go n = record { at = omega arith }

-- ---- the constants
pub one_number : T (finite one)
unfolding of_bits
one_number = tt

pub one_value : value one ≈ frac 1 1
unfolding of_bits
one_value = record { eq = refl }

pub zero_number : T (finite zero)
unfolding of_bits
zero_number = tt

pub zero_value : value zero ≈ frac 0 1
unfolding of_bits
zero_value = record { eq = refl }

-- ---- from sample to sample
pub sample_own : {r : Float} → Unit32 r → Sample r (value r) (halves 0)
sample_own {r} u = record {
  is = u;
  near = within_same (value r) (value r) (halves 0) (eq_refl (value r))
      (halves_nonneg 0);
}

pub sample_more : {r : Float} {X e f : Fraction} → e ≤F f → Sample r X e → Sample r X f
sample_more {r} {X} {e} {f} h s = record { is = s.is; near = within_more (value r) X e f h s.near }

pub sample_along : {r : Float} {X Y e f : Fraction} → X ≈ Y → e ≈ f → Sample r X e → Sample r Y f
sample_along {r} h k s = record { is = s.is; near = within_like (eq_refl (value r)) h k s.near }

-- r is Y rounded once, and Y is near X
pub sample_round : {r : Float} {Y X : Fraction} (n : ℕ) → Rounds binary32 r Y → Unit01 Y → Within Y X (halves n)
    → Sample r X (halves (1 + n))
sample_round {r} {Y} {X} n R u w = record {
  is = record { number = (rounds_unit R u).0; held = rounds_fits R; unit = (rounds_unit R u).1 };
  near = within_like (eq_refl (value r)) (eq_refl X) (halves_add 1 n)
      (within_trans (value r) Y X (halves 1) (halves n) half w);
}
  where
    half : Within (value r) Y (halves 1)
    half = unfold halves in (within32_0 R (abs_unit Y u)).near

pub sample_rest : (t : Float) → Unit32 t → Sample (one ⊖ t) (frac 1 1 -F value t) (halves 1)
sample_rest t u =
    let Y : Fraction = frac 1 1 -F value t in
    sample_round 0 (rounds_along (sub_same one_value (eq_refl (value t)))
    (sub_rounds binary32 one t one_number u.number)) (unit_rest u.unit)
    (within_same Y Y (halves 0) (eq_refl Y) (halves_nonneg 0))

pub sample_mul : {a b : Float} {X Y : Fraction} (m n : ℕ) → Unit01 X → Sample a X (halves m) → Sample b Y (halves n)
    → Sample (a ⊗ b) (X *F Y) (halves (1 + (m + n)))
sample_mul {a} {b} {X} {Y} m n u s r =
    sample_round (m + n) (mul_rounds binary32 a b s.is.number r.is.number)
    (unit_mul s.is.unit r.is.unit)
    (within_like (eq_refl (value a *F value b)) (eq_refl (X *F Y)) (halves_add m n)
    (within_mul_unit (value a) X (value b) Y (halves m) (halves n) u r.is.unit s.near r.near))
