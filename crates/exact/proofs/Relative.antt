-- Relative errors of products: a float is its exact value times a factor near 1, factors multiply, and each rounding in
-- the normal range is one factor more. So the errors of powers and monomials count roundings, whatever their size.
-- Provides, of `Relative r X m k` (specs/Sums): `relative_own` (a coordinate), `relative_one`, `relative_mul`,
-- `relative_more`, `relative_along`; `relative_within` (of a product with any other factor). Assumes nothing.
use mathlib.Core.Path.{◌≡◌, subst}
use mathlib.Core.Bool.{false}
use Prim.Native.Nat.{ℕ, ◌+◌, ◌*◌, ◌^◌, ◌≤◌, ◌<◌}
use native.Mathlib.Nat.{mul-le-mul, mul-le-mul_right}
use native.Mathlib.Omega.{arith}
use lib.Dec.{T, lit≤}
use lib.Pow.{pow_pos}
use lib.Ieee.{Float, binary64, of_bits}
use lib.Ieee.Scale.{finite}
use Rattle.exact.specs.Fraction.{Fraction, frac, value, ◌≤F◌, ◌≈◌, ◌*F◌, abs_f, Within}
use Rattle.exact.specs.Double.{◌⊗◌}
use Rattle.exact.specs.Sums.{Relative}
use Rattle.exact.proofs.Near.{le_refl, lt_le, within_same, within_more}
use Rattle.exact.proofs.Products.{eq_refl, ◌⨟◌, back, le_same, mul_same, mul_one, mul_assoc, mul_comm}
use Rattle.exact.proofs.NearProducts.{abs_mul, abs_nonneg, within_like, mul_within}
use Rattle.exact.proofs.Signed.{signed_le}
use Rattle.exact.proofs.Operations.{mul_rounds}
use Rattle.exact.proofs.Factors.{abs_least, near_three}
use Rattle.exact.proofs.Ranges.{part_pos, least_mul, most_mul, rounds_range}

parts_le : (a b d : ℕ) → 0 < d → a ≤ b → frac a d ≤F frac b d
parts_le a b d D h = signed_le false a d false b d D D (go (mul-le-mul_right d h))
  where
    go : {x y : ℕ} → x ≤ y → x + 0 ≤ y + 0
    go h = omega arith

-- ---- where a chain starts
module _ (x : Float) (t : T (finite x)) where
  pub relative_own : (k : ℕ) → frac 1 (2 ^ k) ≤F abs_f (value x) → abs_f (value x) ≤F frac (2 ^ (21 * k)) 1
      → Relative x (value x) 0 k
  relative_own k h g = record {
    number = t;
    factor = frac 1 1;
    is = back (mul_one (value x));
    near = within_same (frac 1 1) (frac 1 1) (frac 0 (2 ^ 53)) (eq_refl (frac 1 1)) (record { le = lit≤ tt });
    least = h;
    most = g;
  }

-- 1.0
pub relative_one : Relative (of_bits binary64 0x3ff0_0000_0000_0000) (frac 1 1) 0 0
unfolding of_bits abs_f
relative_one = relative_own (of_bits binary64 0x3ff0_0000_0000_0000) tt 0 (record { le = lit≤ tt })
    (record { le = lit≤ tt })

module _ {r : Float} {X : Fraction} {m k : ℕ} (R : Relative r X m k) where
  pub relative_more : (n : ℕ) → m ≤ n → Relative r X n k
  relative_more n h = record {
    number = R.number;
    factor = R.factor;
    is = R.is;
    near = within_more R.factor (frac 1 1) (frac m (2 ^ 53)) (frac n (2 ^ 53))
        (parts_le m n (2 ^ 53) (pow_pos 53) h) R.near;
    least = R.least;
    most = R.most;
  }

  pub relative_along : {Y : Fraction} → X ≈ Y → Relative r Y m k
  relative_along e = record {
    number = R.number;
    factor = R.factor;
    is = R.is ⨟ mul_same e (eq_refl R.factor);
    near = R.near;
    least = R.least;
    most = R.most;
  }

  -- with any other factor c, whose product with X is at most b in size
  pub relative_within : (c b : Fraction) → abs_f (X *F c) ≤F b → Within (value r *F c) (X *F c) (b *F frac m (2 ^ 53))
  relative_within c b h =
      within_like (back (mul_same R.is (eq_refl c) ⨟ swap X R.factor c)) (mul_one (X *F c))
      (eq_refl (b *F frac m (2 ^ 53)))
      (mul_within R.factor (frac 1 1) (frac m (2 ^ 53)) (X *F c) b h R.near)
    where
      swap : (x y z : Fraction) → x *F y *F z ≈ x *F z *F y
      swap x y z = mul_assoc x y z ⨟ mul_same (eq_refl x) (mul_comm y z) ⨟ back (mul_assoc x z y)

-- ---- a product, rounded
module _ {x y : Float} {X Y : Fraction} {m n i j : ℕ} (A : Relative x X m i) (B : Relative y Y n j) where
  pub relative_mul : m ≤ 64 → n ≤ 64 → i + j ≤ 40 → Relative (x ⊗ y) (X *F Y) (m + n + 2) (i + j)
  relative_mul M N K =
      let R = mul_rounds binary64 x y A.number B.number in
      let w = rounds_range R (i + j) (21 * (i + j)) (normal i j K) (top i j K) least most in
      record {
        number = w.0;
        factor = A.factor *F B.factor *F w.1.0;
        is = w.1.1 ⨟ mul_same (mul_same A.is B.is) (eq_refl w.1.0) ⨟ regroup X A.factor Y B.factor
            w.1.0;
        near = near_three (2 ^ 53) m n (pow_pos 53) (tiny (2 ^ 53) m n (lit≤ tt) M N) A.factor B.factor w.1.0
            A.near B.near w.1.2;
        least = w.2;
        most = w.3;
      }
    where
      normal : (i j : ℕ) → i + j ≤ 40 → 52 + (i + j) ≤ 1074
      normal i j h = omega arith

      top : (i j : ℕ) → i + j ≤ 40 → 21 * (i + j) ≤ 1023
      top i j h = omega arith

      least : frac 1 (2 ^ (i + j)) ≤F abs_f (value x *F value y)
      least = le_same (least_mul i j) (eq_refl (abs_f (value x *F value y)))
          (abs_least (value x) (value y) (frac 1 (2 ^ i)) (frac 1 (2 ^ j))
          (lt_le (frac 0 1) (frac 1 (2 ^ i)) (part_pos (2 ^ i) (pow_pos i)))
          (abs_nonneg (value y) (abs_f (value y)) (le_refl (abs_f (value y)) (abs_f (value y)))) A.least B.least)

      most : abs_f (value x *F value y) ≤F frac (2 ^ (21 * (i + j))) 1
      most =
          le_same (eq_refl (abs_f (value x *F value y)))
          (most_mul (21 * i) (21 * j) ⨟ powers (21 * i + 21 * j) (21 * (i + j)) (omega arith))
          (abs_mul (value x) (value y) (frac (2 ^ (21 * i)) 1) (frac (2 ^ (21 * j)) 1) A.most B.most)
        where
          powers : (a b : ℕ) → a ≡ b → frac (2 ^ a) 1 ≈ frac (2 ^ b) 1
          powers a b e = subst (λ (z : ℕ). frac (2 ^ a) 1 ≈ frac (2 ^ z) 1) e (eq_refl (frac (2 ^ a) 1))

      tiny : (U m n : ℕ) → 5000 ≤ U → m ≤ 64 → n ≤ 64 → m * n * U + (m + n) * U + m * n ≤ U * U
      tiny U m n big M N =
          let a : m * n ≤ 64 * 64 = mul-le-mul M N in
          let b : m * n * U ≤ 64 * 64 * U = mul-le-mul_right U a in
          let c : (m + n) * U ≤ 128 * U = mul-le-mul_right U (omega arith) in
          let d : 5000 * U ≤ U * U = mul-le-mul_right U big in
          omega arith

      regroup : (X a Y b c : Fraction) → X *F a *F (Y *F b) *F c ≈ X *F Y *F (a *F b *F c)
      regroup X a Y b c =
          mul_same (swap4 X a Y b) (eq_refl c) ⨟ mul_assoc (X *F Y) (a *F b) c
        where
          swap4 : (x a y b : Fraction) → x *F a *F (y *F b) ≈ x *F y *F (a *F b)
          swap4 x a y b =
              mul_assoc x a (y *F b) ⨟ mul_same (eq_refl x)
              (back (mul_assoc a y b) ⨟ mul_same (mul_comm a y) (eq_refl b) ⨟ mul_assoc y a b) ⨟ back
              (mul_assoc x y (a *F b))
