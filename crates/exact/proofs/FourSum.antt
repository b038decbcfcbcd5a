-- The sum of four products beside the sum of their weights. The exact partial sums are at most 1, so each rounded one
-- is below 2 and a rounding adds one unit of 2 ^ -24 at most; and since rounding keeps the order, the products' sum
-- stays at most the weights'. Provides: `Taken` (a product beside its weight), `taken`; `Sums` (the two sums, side by
-- side), `sums_start`, `sums_next`, `sums_four`. Assumes nothing.
use mathlib.Core.Path.{refl, subst}
use Prim.Native.Nat.{ℕ, ◌+◌, ◌^◌, ◌≤◌}
use native.Mathlib.Nat as N
use lib.Dec.{T, lit≤}
use lib.Ieee.{Float, binary32}
use lib.Ieee.Scale.{finite}
use Rattle.exact.specs.Fraction.{Fraction, frac, value, ◌≤F◌, ◌≈◌, ◌+F◌, ◌*F◌, abs_f, Within, Unit01}
use Rattle.exact.specs.Rounds.{Rounds, Close}
use Rattle.exact.specs.Single.{◌⊕◌, ◌⊗◌, zero}
use Rattle.exact.specs.Weighted.{four_sum, Unit32, Sample}
use Rattle.exact.proofs.Near.{le_trans, add_mono, add_same, within_open, within_trans, within_add}
use Rattle.exact.proofs.Products.{eq_refl, ◌⨟◌, mul_one, back, add_zero, add_comm, le_same, mul_le}
use Rattle.exact.proofs.NearProducts.{abs_self, within_like}
use Rattle.exact.proofs.Rounds.{rounds_along}
use Rattle.exact.proofs.Monotone.{rounds_mono, rounds_nonneg, rounds_at_most, rounds_exact}
use Rattle.exact.proofs.Operations.{add_rounds, mul_rounds}
use Rattle.exact.proofs.Bounds.{rounds_bound}
use Rattle.exact.proofs.Samples.{
  halves,
  halves_add,
  halves_le,
  zero_number,
  zero_value,
  sample_own,
  sample_mul,
}

-- ---- the product x of a weight w and a sample, with the exact W and X
pub record Taken (x w : Float) (X W : Fraction) (n : ℕ) : Type 0 where
  pub product : Sample x X (halves (1 + n))
  pub weight : Sample w W (halves n)
  pub order : value x ≤F value w
  pub exact : X ≤F W

pub taken : (w p : Float) (W : Fraction) (n : ℕ) → Unit01 W → Sample w W (halves n) → Unit32 p
    → Taken (w ⊗ p) w (W *F value p) W n
taken w p W n u s u' =
    let r : Sample (w ⊗ p) (W *F value p) (halves (1 + n)) =
    subst (λ (k : ℕ). Sample (w ⊗ p) (W *F value p) (halves (1 + k))) (N.add-zero n)
    (sample_mul n 0 u s (sample_own u')) in
    record {
      product = r;
      weight = s;
      order = rounds_at_most (mul_rounds binary32 w p s.is.number u'.number) w s.is.held s.is.number
          r.is.number (below (value w) s.is.unit.0);
      exact = below W u.0;
    }
  where
    below : (v : Fraction) → frac 0 1 ≤F v → v *F value p ≤F v
    below v h = le_same (eq_refl (v *F value p)) (mul_one v) (mul_le h u'.unit.1)

-- ---- r is a number that is not negative, at most n halves away from X
pub record Summed (r : Float) (X : Fraction) (n : ℕ) : Type 0 where
  pub number : T (finite r)
  pub nonneg : frac 0 1 ≤F value r
  pub near : Within (value r) X (halves n)

zero_rounds : (x : Float) → T (finite x) → Rounds binary32 (zero ⊕ x) (value x)
zero_rounds x t =
    rounds_along (add_same (value zero) (frac 0 1) (value x) (value x) zero_value (eq_refl (value x)) ⨟ add_comm
    (frac 0 1) (value x) ⨟ add_zero (value x))
    (add_rounds binary32 zero x zero_number t)

-- the first sum is exact
summed_start : (x : Float) {X : Fraction} (n : ℕ) → Sample x X (halves n) → Summed (zero ⊕ x) X n
summed_start x {X} n s =
    let R = zero_rounds x s.is.number in
    let w = rounds_exact R x s.is.held s.is.number (eq_refl (value x)) in
    record {
      number = w.0;
      nonneg = rounds_nonneg R w.0 s.is.unit.0;
      near = within_like (back w.1) (eq_refl X) (eq_refl (halves n)) s.near;
    }

-- a value that is not negative and near one of at most 1 is at most 2
under_two : (z X : Fraction) (n : ℕ) → frac 0 1 ≤F z → Within z X (halves n) → X ≤F frac 1 1 → n ≤ 2 ^ 25
    → abs_f z ≤F frac 2 1
under_two z X n z0 w h l =
    le_trans (abs_f z) z (frac 2 1) (abs_self z z0)
    (le_trans z (X +F halves n) (frac 2 1) (within_open z X (halves n) w).0
    (le_same (eq_refl (X +F halves n)) two
    (add_mono X (frac 1 1) (halves n) (frac 1 1) h (le_same (eq_refl (halves n)) full (halves_le n (2 ^ 25) l)))))
  where
    full : halves (2 ^ 25) ≈ frac 1 1
    full = unfold halves in record { eq = refl }

    two : frac 1 1 +F frac 1 1 ≈ frac 2 1
    two = unfold ◌+F◌ in record { eq = refl }

-- each further one adds one unit: two halves
summed_next : (r x : Float) {X Y : Fraction} (m n : ℕ) → Summed r X m → Sample x Y (halves n) → X +F Y ≤F frac 1 1
    → m + n ≤ 2 ^ 25 → Summed (r ⊕ x) (X +F Y) (2 + (m + n))
summed_next r x {X} {Y} m n a s h l =
    record {
      number = c.number;
      nonneg = rounds_nonneg R c.number z0;
      near = within_like (eq_refl (value (r ⊕ x))) (eq_refl (X +F Y)) (halves_add 2 (m + n))
          (within_trans (value (r ⊕ x)) z (X +F Y) (halves 2) (halves (m + n)) unit w);
    }
  where
    z : Fraction
    z = value r +F value x

    R : Rounds binary32 (r ⊕ x) z
    R = add_rounds binary32 r x a.number s.is.number

    z0 : frac 0 1 ≤F z
    z0 = le_same (add_zero (frac 0 1)) (eq_refl z)
        (add_mono (frac 0 1) (value r) (frac 0 1) (value x) a.nonneg s.is.unit.0)

    w : Within z (X +F Y) (halves (m + n))
    w = within_like (eq_refl z) (eq_refl (X +F Y)) (halves_add m n)
        (within_add (value r) X (value x) Y (halves m) (halves n) a.near s.near)

    c : Close (r ⊕ x) z (frac 2 (2 ^ 25)) (frac 2 1)
    c = rounds_bound R 150 2 1 2 (2 ^ 25) tt (under_two z (X +F Y) (m + n) z0 w h l)

    unit : Within (value (r ⊕ x)) z (halves 2)
    unit = unfold halves in c.near

-- ---- the two sums, side by side
pub record Sums (r s : Float) (X W : Fraction) (m n : ℕ) : Type 0 where
  pub products : Summed r X m
  pub weights : Summed s W n
  pub order : value r ≤F value s
  pub exact : X ≤F W

pub sums_start : {x w : Float} {X W : Fraction} (n : ℕ) → Taken x w X W n → Sums (zero ⊕ x) (zero ⊕ w) X W (1 + n) n
sums_start {x} {w} n k =
    let p = summed_start x (1 + n) k.product in
    let q = summed_start w n k.weight in
    record {
      products = p;
      weights = q;
      order = rounds_mono (zero_rounds x k.product.is.number) (zero_rounds w k.weight.is.number)
          p.number q.number k.order;
      exact = k.exact;
    }

pub sums_next : {r s x w : Float} {X W Y Z : Fraction} (m n j : ℕ) → Sums r s X W m n → Taken x w Y Z j → W
    +F Z ≤F frac 1 1 → m + (1 + j) ≤ 2 ^ 25 → n + j ≤ 2 ^ 25
    → Sums (r ⊕ x) (s ⊕ w) (X +F Y) (W +F Z) (2 + (m + (1 + j))) (2 + (n + j))
sums_next {r} {s} {x} {w} {X} {W} {Y} {Z} m n j a k h l l' =
    let le : X +F Y ≤F W +F Z = add_mono X W Y Z a.exact k.exact in
    let p = summed_next r x m (1 + j) a.products k.product (le_trans (X +F Y) (W +F Z) (frac 1 1) le h) l in
    let q = summed_next s w n j a.weights k.weight h l' in
    record {
      products = p;
      weights = q;
      order = rounds_mono (add_rounds binary32 r x a.products.number k.product.is.number)
          (add_rounds binary32 s w a.weights.number k.weight.is.number) p.number q.number
          (add_mono (value r) (value s) (value x) (value w) a.order k.order);
      exact = le;
    }

-- all four taps: the weights are within 3, 2, 2 and 1 halves, so the products' sum is within 18 halves and the weights'
-- within 14
pub sums_four : {x0 x1 x2 x3 w0 w1 w2 w3 : Float} {X0 X1 X2 X3 W0 W1 W2 W3 : Fraction} → Taken x0 w0 X0 W0 3
    → Taken x1 w1 X1 W1 2 → Taken x2 w2 X2 W2 2 → Taken x3 w3 X3 W3 1
    → W0 +F W1 ≤F frac 1 1 → W0 +F W1 +F W2 ≤F frac 1 1 → W0 +F W1 +F W2 +F W3 ≤F frac 1 1
    → Sums (four_sum x0 x1 x2 x3) (four_sum w0 w1 w2 w3) (X0 +F X1 +F X2 +F X3) (W0 +F W1 +F W2 +F W3) 18 14
sums_four a b c d h1 h2 h3 =
    sums_next 14 11 1 (sums_next 9 7 2 (sums_next 4 3 2 (sums_start 3 a) b h1 (lit≤ tt) (lit≤ tt)) c h2 (lit≤ tt)
    (lit≤ tt)) d h3 (lit≤ tt) (lit≤ tt)
