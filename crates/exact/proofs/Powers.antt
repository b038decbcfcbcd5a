-- Powers, monomials and terms of a polynomial at a coordinate from 1/2 to 2 ^ 21 in size: each product is one rounding
-- more, so a monomial of degree up to 5 is exact but for a factor within 10 2 ^ -53 of 1; and a coefficient of any size
-- changes nothing about that, so a term of size up to 16,384 is near. Provides, of a `PixelCoordinate` (specs/Sums):
-- `coordinate_relative`, `power_relative`, `monomial_relative`, `product_relative` (x y); terms with a coefficient:
-- `term`, `term_monomial`, `term_one`, `term_x`, `term_y`, `term_xy`, and `term_close` (within 11 2 ^ -39, at most
-- 16,385 in size); `close_size`. Assumes nothing.
use Prim.Native.Nat.{ℕ, zero, suc, ◌+◌, ◌-◌, ◌*◌, ◌^◌, ◌≤◌}
use native.Mathlib.Omega.{arith}
use lib.Dec.{T, lit≤}
use lib.Ieee.{Float, binary64, of_bits}
use lib.Ieee.Scale.{finite}
use Rattle.exact.specs.Fraction.{Fraction, frac, value, ◌≤F◌, ◌≈◌, ◌+F◌, ◌*F◌, abs_f, Within}
use Rattle.exact.specs.Rounds.{Close}
use Rattle.exact.specs.Double.{◌⊗◌}
use Rattle.exact.specs.Power.{power, pow_f}
use Rattle.exact.specs.Sums.{PixelCoordinate, Term, Relative}
use Rattle.exact.proofs.Near.{le_refl, le_trans}
use Rattle.exact.proofs.Products.{eq_refl, ◌⨟◌, back, mul_same, mul_one, mul_assoc}
use Rattle.exact.proofs.NearProducts.{abs_near}
use Rattle.exact.proofs.Operations.{mul_rounds}
use Rattle.exact.proofs.Steps.{close_more, close_move}
use Rattle.exact.proofs.Bounds.{rounds_bound}
use Rattle.exact.proofs.Relative.{
  relative_own,
  relative_one,
  relative_mul,
  relative_more,
  relative_along,
  relative_within,
}

pub coordinate_relative : {x : Float} {X : Fraction} → PixelCoordinate x X → Relative x X 0 1
coordinate_relative {x} c = relative_along (relative_own x c.number 1 c.least c.most) c.is

-- ---- powers by repeated squaring
module _ (X : Fraction) where
  two : X *F X ≈ pow_f X 2
  two = unfold pow_f in mul_same (eq_refl X) (back (mul_one X))

  three : X *F (X *F X) ≈ pow_f X 3
  three = unfold pow_f in mul_same (eq_refl X) two

  four : X *F X *F (X *F X) ≈ pow_f X 4
  four = unfold pow_f in mul_assoc X X (X *F X) ⨟ mul_same (eq_refl X) three

  five : X *F (X *F X *F (X *F X)) ≈ pow_f X 5
  five = unfold pow_f in mul_same (eq_refl X) four

module _ {x : Float} {X : Fraction} (c : PixelCoordinate x X) where
  second : Relative (x ⊗ x) (X *F X) 2 2
  second = relative_mul (coordinate_relative c) (coordinate_relative c) (lit≤ tt) (lit≤ tt) (lit≤ tt)

  fourth : Relative (x ⊗ x ⊗ (x ⊗ x)) (X *F X *F (X *F X)) 6 4
  fourth = relative_mul second second (lit≤ tt) (lit≤ tt) (lit≤ tt)

  pub power_relative : (i : ℕ) → i ≤ 5 → Relative (power x i) (pow_f X i) (2 * i - 2) i
  unfolding power pow_f
  power_relative zero h = relative_one
  power_relative (suc zero) h = relative_along (coordinate_relative c) (back (mul_one X))
  power_relative (suc (suc zero)) h = relative_along second (two X)
  power_relative (suc (suc (suc zero))) h =
      relative_along (relative_mul (coordinate_relative c) second (lit≤ tt) (lit≤ tt) (lit≤ tt)) (three X)
  power_relative (suc (suc (suc (suc zero)))) h = relative_along fourth (four X)
  power_relative (suc (suc (suc (suc (suc zero))))) h =
      relative_along (relative_mul (coordinate_relative c) fourth (lit≤ tt) (lit≤ tt) (lit≤ tt)) (five X)
  power_relative (suc (suc (suc (suc (suc (suc n)))))) h = absurd (past n h)
    where
      past : (n : ℕ) → suc (suc (suc (suc (suc (suc n))))) ≤ 5 → ⊥
      past n h = omega arith

-- ---- monomials: x ^ i y ^ j with i + j up to 5
module _ {x y : Float} {X Y : Fraction} (c : PixelCoordinate x X) (d : PixelCoordinate y Y) where
  pub monomial_relative : (i j : ℕ) → i + j ≤ 5 → Relative (power x i ⊗ power y j) (pow_f X i *F pow_f Y j) 10 (i + j)
  monomial_relative i j h =
      relative_more (relative_mul (power_relative c i (left i j h)) (power_relative d j (right i j h)) (few i j h)
      (few j i (turn i j h)) (less i j h)) 10 (all i j h)
    where
      left : (i j : ℕ) → i + j ≤ 5 → i ≤ 5
      left i j h = omega arith

      right : (i j : ℕ) → i + j ≤ 5 → j ≤ 5
      right i j h = omega arith

      turn : (i j : ℕ) → i + j ≤ 5 → j + i ≤ 5
      turn i j h = omega arith

      few : (i j : ℕ) → i + j ≤ 5 → 2 * i - 2 ≤ 64
      few i j h = omega arith

      less : (i j : ℕ) → i + j ≤ 5 → i + j ≤ 40
      less i j h = omega arith

      all : (i j : ℕ) → i + j ≤ 5 → 2 * i - 2 + (2 * j - 2) + 2 ≤ 10
      all i j h = omega arith

  pub product_relative : Relative (x ⊗ y) (X *F Y) 2 2
  product_relative = relative_mul (coordinate_relative c) (coordinate_relative d) (lit≤ tt) (lit≤ tt) (lit≤ tt)

-- ---- terms
module _ {a : Float} {M : Fraction} {m k : ℕ} (R : Relative a M m k) (few : m ≤ 10) (c : Float) (t : T (finite c))
    (h : abs_f (M *F value c) ≤F frac 16384 1) where
  pub term : Term a M c
  term = record { degree = k; monomial = relative_more R 10 few; number = t; size = h }

module _ {x y : Float} {X Y : Fraction} (p : PixelCoordinate x X) (q : PixelCoordinate y Y) (c : Float)
    (t : T (finite c)) where
  pub term_monomial : (i j : ℕ) → i + j ≤ 5 → abs_f (pow_f X i *F pow_f Y j *F value c) ≤F frac 16384 1
      → Term (power x i ⊗ power y j) (pow_f X i *F pow_f Y j) c
  term_monomial i j l h = term (monomial_relative p q i j l) (lit≤ tt) c t h

  -- the terms 1, x, y and x y of the order 1.5
  pub term_one : abs_f (frac 1 1 *F value c) ≤F frac 16384 1 → Term (of_bits binary64 0x3ff0_0000_0000_0000) (frac 1 1) c
  term_one h = term relative_one (lit≤ tt) c t h

  pub term_x : abs_f (X *F value c) ≤F frac 16384 1 → Term x X c
  term_x h = term (coordinate_relative p) (lit≤ tt) c t h

  pub term_y : abs_f (Y *F value c) ≤F frac 16384 1 → Term y Y c
  term_y h = term (coordinate_relative q) (lit≤ tt) c t h

  pub term_xy : abs_f (X *F Y *F value c) ≤F frac 16384 1 → Term (x ⊗ y) (X *F Y) c
  term_xy h = term (product_relative p q) (lit≤ tt) c t h

-- a better bound of a float's size, from that of the exact number
pub close_size : {r : Float} {X e b : Fraction} (a c : Fraction) → Close r X e b → abs_f X ≤F a → a +F e ≤F c
    → Close r X e c
close_size {r} {X} {e} a c C h k =
    record {
      number = C.number;
      near = C.near;
      small = le_trans (abs_f (value r)) (a +F e) c (abs_near (value r) X e a C.near h) k;
    }

pub term_close : {a : Float} {M : Fraction} {c : Float} → Term a M c
    → Close (a ⊗ c) (M *F value c) (frac 11 (2 ^ 39)) (frac 16385 1)
term_close {a} {M} {c} t =
    let Z : Fraction = value a *F value c in
    let e : Fraction = frac 16384 1 *F frac 10 (2 ^ 53) in
    let w : Within Z (M *F value c) e = relative_within t.monomial (value c) (frac 16384 1) t.size in
    let r : Close (a ⊗ c) Z (frac 1 (2 ^ 39)) (frac 32768 1) =
    rounds_bound (mul_rounds binary64 a c t.monomial.number t.number) 1089 32768 1 1 (2 ^ 39) tt
    (le_trans (abs_f Z) (frac 16384 1 +F e) (frac 32768 1) (abs_near Z (M *F value c) e (frac 16384 1) w t.size)
    room) in
    close_size (frac 16384 1) (frac 16385 1)
    (close_more parts (le_refl (frac 32768 1) (frac 32768 1)) (close_move r w)) t.size small
  where
    room : frac 16384 1 +F frac 16384 1 *F frac 10 (2 ^ 53) ≤F frac 32768 1
    room = unfold ◌+F◌ ◌*F◌ in record { le = lit≤ tt }

    parts : frac 1 (2 ^ 39) +F frac 16384 1 *F frac 10 (2 ^ 53) ≤F frac 11 (2 ^ 39)
    parts = unfold ◌+F◌ ◌*F◌ in record { le = lit≤ tt }

    small : frac 16384 1 +F frac 11 (2 ^ 39) ≤F frac 16385 1
    small = unfold ◌+F◌ in record { le = lit≤ tt }
