-- Powers of two as bounds: 2 ^ -k and 2 ^ n are whole numbers of a format's units, so rounding keeps what lies from one
-- to the other there, and the error is relative between them. Provides: `power_mono`, `least_power`, `most_power` (2 ^
-- -k and 2 ^ n in units), `least_mul`, `most_mul` (their products), `part_pos`, `abs_grow`; of `Rounds f r X`:
-- `rounds_least` (not below 2 ^ K units where X is not), `rounds_range` (finite, from 2 ^ -k to 2 ^ n, and X times a
-- factor within 2 ^ -prec of 1). Assumes nothing.
use mathlib.Core.Path.{◌≡◌, sym, ap, ◌∙◌, subst}
use mathlib.Core.Bool.{false}
use Prim.Native.Nat.{ℕ, suc, ◌+◌, ◌-◌, ◌*◌, ◌^◌, ◌≤◌, ◌<◌}
use native.Mathlib.Nat.{mul_comm, mul-one, one-mul, mul-pos, mul-le-mul_right, zero-lt-suc}
use native.Mathlib.Omega.{arith}
use lib.Dec.{T}
use lib.Pow.{pow-add, pow_pos, pow_mono, pow-lt}
use lib.Ieee.{Float, Format, prec, emax, low, round}
use lib.Ieee.Scale.{finite, overflow}
use Rattle.exact.specs.Fraction.{Fraction, frac, value, ◌≤F◌, ◌<F◌, ◌≈◌, ◌*F◌, abs_f}
use Rattle.exact.specs.Rounds.{signed_f, Rounds, Close, power_f, half_ulp}
use Rattle.exact.proofs.Scale.{At, at_eq, at_mul, at_ratio}
use Rattle.exact.proofs.Near.{le_refl, le_trans, lt_le, eq_le, eq_sym}
use Rattle.exact.proofs.Products.{eq_refl, back, le_same, lt_le_trans}
use Rattle.exact.proofs.NearProducts.{abs_open, abs_self}
use Rattle.exact.proofs.Signed.{signed_le, signed_lt, signed_eq}
use Rattle.exact.proofs.Rounds.{rounds_self, rounds_within, rounds_normal}
use Rattle.exact.proofs.Monotone.{rounds_fixed, rounds_abs}
use Rattle.exact.proofs.Factors.{Factor, factor_near}

-- ---- in units
plain : {x y : ℕ} → x ≤ y → x + 0 ≤ y + 0
plain h = omega arith

level : {x y : ℕ} → x ≡ y → x + 0 ≡ y + 0
level h = omega arith

module _ (f : Format) where
  pub power_mono : (i j : ℕ) → i ≤ j → power_f f i ≤F power_f f j
  power_mono i j h = signed_le false (2 ^ i) (2 ^ low f) false (2 ^ j) (2 ^ low f) (pow_pos (low f)) (pow_pos (low f))
      (plain (mul-le-mul_right (2 ^ low f) (pow_mono h)))

  pub least_power : (k : ℕ) → k ≤ low f → frac 1 (2 ^ k) ≈ power_f f (low f - k)
  least_power k h =
      signed_eq false 1 (2 ^ k) false (2 ^ (low f - k)) (2 ^ low f) (pow_pos k) (pow_pos (low f))
      (level (one-mul (2 ^ low f) ∙ ap (λ (z : ℕ). 2 ^ z) (whole (low f) k h) ∙ pow-add 2 (low f - k) k))
    where
      whole : (l k : ℕ) → k ≤ l → l ≡ l - k + k
      whole l k h = omega arith

  pub most_power : (n : ℕ) → frac (2 ^ n) 1 ≈ power_f f (low f + n)
  most_power n =
      signed_eq false (2 ^ n) 1 false (2 ^ (low f + n)) (2 ^ low f) (zero-lt-suc 0) (pow_pos (low f))
      (level (mul_comm (2 ^ n) (2 ^ low f) ∙ sym (pow-add 2 (low f) n) ∙ sym (mul-one (2 ^ (low f + n)))))

pub least_mul : (i j : ℕ) → frac 1 (2 ^ i) *F frac 1 (2 ^ j) ≈ frac 1 (2 ^ (i + j))
least_mul i j =
    at_eq (2 ^ i * 2 ^ j) (mul-pos (pow_pos i) (pow_pos j))
    (at_mul (at_ratio 1 0 (2 ^ i) (pow_pos i)) (at_ratio 1 0 (2 ^ j) (pow_pos j)))
    (at_there (2 ^ (i + j)) (2 ^ i * 2 ^ j) (pow-add 2 i j) (pow_pos (i + j))) (omega arith)
  where
    at_there : (a b : ℕ) → a ≡ b → 0 < a → At b (frac 1 a) 1 0
    at_there a b e h = subst (λ (z : ℕ). At z (frac 1 a) 1 0) e (at_ratio 1 0 a h)

pub most_mul : (i j : ℕ) → frac (2 ^ i) 1 *F frac (2 ^ j) 1 ≈ frac (2 ^ (i + j)) 1
most_mul i j =
    at_eq (1 * 1) (zero-lt-suc 0)
    (at_mul (at_ratio (2 ^ i) 0 1 (zero-lt-suc 0)) (at_ratio (2 ^ j) 0 1 (zero-lt-suc 0)))
    (at_ratio (2 ^ (i + j)) 0 1 (zero-lt-suc 0)) (go (2 ^ i) (2 ^ j) (2 ^ (i + j)) (pow-add 2 i j))
  where
    go : (a b c : ℕ) → c ≡ a * b → a * b + 0 * 0 + 0 ≡ c + (a * 0 + 0 * b)
    go a b c e = omega arith

pub part_pos : (a : ℕ) → 0 < a → frac 0 1 <F frac 1 a
part_pos a h = signed_lt false 0 1 false 1 a (zero-lt-suc 0) h (go a)
  where
    go : (a : ℕ) → 0 * a + 0 < 1 * 1 + 0
    go a = omega arith

pub abs_grow : (x : Fraction) → x ≤F abs_f x
abs_grow x = (abs_open x (abs_f x) (le_refl (abs_f x) (abs_f x))).0

-- ---- rounding
module _ {f : Format} {r : Float} {X : Fraction} (R : Rounds f r X) where
  pub rounds_least : (K : ℕ) → K ≤ low f + emax f → power_f f K ≤F abs_f X → T (finite r) → power_f f K ≤F abs_f (value r)
  rounds_least K top h t =
      let L = 2 ^ low f in
      let q = round f false (2 ^ K) L in
      let Q = rounds_self f false (2 ^ K) L (pow_pos (low f)) in
      let w = rounds_fixed Q false 1 K (pow_pos (prec f)) under own in
      le_trans (power_f f K) (abs_f (value q)) (abs_f (value r))
      (le_trans (power_f f K) (value q) (abs_f (value q))
      (eq_le (power_f f K) (value q) (eq_sym (value q) (power_f f K) w.1)) (abs_grow (value q)))
      (rounds_abs Q R w.0 t (le_trans (abs_f (power_f f K)) (power_f f K) (abs_f X) (abs_self (power_f f K) nonneg) h))
    where
      up : (K l e : ℕ) → K ≤ l + e → K < l + suc e
      up K l e h = omega arith

      under : 1 * 2 ^ K < overflow f
      under = subst (λ (z : ℕ). z < overflow f) (sym (one-mul (2 ^ K))) (pow-lt (up K (low f) (emax f) top))

      own : power_f f K ≈ signed_f false (1 * 2 ^ K) (2 ^ low f)
      own = subst (λ (z : ℕ). power_f f K ≈ signed_f false z (2 ^ low f)) (sym (one-mul (2 ^ K))) (eq_refl (power_f f K))

      nonneg : frac 0 1 ≤F power_f f K
      nonneg = signed_le false 0 1 false (2 ^ K) (2 ^ low f) (zero-lt-suc 0) (pow_pos (low f)) (go (2 ^ low f) (2 ^ K))
        where
          go : (a b : ℕ) → 0 * a + 0 ≤ b * 1 + 0
          go a b = omega arith

  -- X from 2 ^ -k to 2 ^ n, in the range of full precision
  pub rounds_range : (k n : ℕ) → prec f - 1 + k ≤ low f → n ≤ emax f → frac 1 (2 ^ k) ≤F abs_f X
      → abs_f X ≤F frac (2 ^ n) 1
      → T (finite r) × Factor (value r) X (frac 1 (2 ^ prec f)) × (frac 1 (2 ^ k) ≤F abs_f (value r))
      × (abs_f (value r) ≤F frac (2 ^ n) 1)
  rounds_range k n normal top h g =
      let lo = least_power f k (small (prec f - 1) k (low f) normal) in
      let hi = most_power f n in
      let least : power_f f (low f - k) ≤F abs_f X = le_same lo (eq_refl (abs_f X)) h in
      let c : Close r X (half_ulp f (low f + n)) (power_f f (low f + n)) =
      rounds_within R (low f + n) (more (low f) n (emax f) top) (le_same (eq_refl (abs_f X)) hi g) in (
        c.number,
        factor_near (value r) X (frac 1 (2 ^ prec f))
            (lt_le (frac 0 1) (frac 1 (2 ^ prec f)) (part_pos (2 ^ prec f) (pow_pos (prec f))))
            (lt_le_trans (part_pos (2 ^ k) (pow_pos k)) h)
            (rounds_normal R c.number
            (le_trans (power_f f (prec f - 1)) (power_f f (low f - k)) (abs_f X)
            (power_mono f (prec f - 1) (low f - k) (room (prec f - 1) k (low f) normal)) least)),
        le_same (back lo) (eq_refl (abs_f (value r)))
            (rounds_least (low f - k) (fewer (low f) k (emax f)) least c.number),
        le_same (eq_refl (abs_f (value r))) (back hi) c.small,
      )
    where
      small : (p k l : ℕ) → p + k ≤ l → k ≤ l
      small p k l h = omega arith

      room : (p k l : ℕ) → p + k ≤ l → p ≤ l - k
      room p k l h = omega arith

      more : (l n e : ℕ) → n ≤ e → l + n ≤ l + e
      more l n e h = omega arith

      fewer : (l k e : ℕ) → l - k ≤ l + e
      fewer l k e = omega arith
