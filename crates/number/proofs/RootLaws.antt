-- The square root is correctly rounded. Its result is a value of binary64; and for a finite x above 0, whichever finite
-- f64 y that is not negative is set against the result r, x lies on r's side of the square of their midpoint, never on
-- it: so no f64 is as near to the root as r. The numbers are counted in units of 2 ^ -1074 (`RootNear.antt` has the
-- argument). Assumes nothing.
use Rattle.std.proofs.Common.{◌≡◌, ℕ, zero, suc, ◌+◌, ◌-◌, ◌*◌, ◌/◌, ◌^◌, ◌<◌, ◌≤◌, true, false, T, ◌⊎◌, sym, ap, ◌∙◌, subst, inl, inr, le_trans, le_of_eq, lt_of_lt_of_le, mul-le-mul_right, mul_assoc, eq-or-lt_of_le, arith, ltb→lt, pow_pos}
use lib.Ieee.{Float, nan, inf, fin, binary64, up, down, fits, lt, size}
use lib.Ieee.Fits.{round-fits, nan-fits, inf-fits}
use lib.Ieee.Positive.{num, den, positive}
use Rattle.exact.proofs.Midpoint.{midpoint_under, midpoint_over, square_le, square_ge}
use Rattle.exact.proofs.Neighbours.{next_below, next_above}
use Rattle.exact.proofs.Operands.{lt_values}
use Rattle.exact.proofs.Units.{Units, units}
use Rattle.number.specs.Root.{nearest_root, root_of, root, unsigned, MidpointUnder, MidpointOver}
use Rattle.number.proofs.RootNumbers.{Rooted, rooted}
use Rattle.number.proofs.RootNear.{under_next, under_least, over_next}

-- ---- the result is an f64
root_of_fits : (n : ℕ) → T (fits binary64 (root_of n))
unfolding root_of
root_of_fits n = let h = (size n - 1) / 2 in
    round-fits binary64 false (nearest_root (n * 2 ^ 104 / 4 ^ h) * 2 ^ h) (2 ^ 589)

pub root_fits : (x : Float) → T (fits binary64 x) → T (fits binary64 (root x))
unfolding root
root_fits nan f = nan-fits binary64
root_fits (inf true) f = nan-fits binary64
root_fits (inf false) f = inf-fits binary64 false
root_fits (fin s zero e) f = f
root_fits (fin true (suc m) e) f = nan-fits binary64
root_fits (fin false (suc m) e) f = root_of_fits (suc m * up e * 2 ^ 1074 / down e)

-- ---- no f64 is as near
below_root : (x y : Float) (m k : ℕ) (r : Rooted x) → Units binary64 y false m k → m * 2 ^ k < r.q * 2 ^ r.g
    → MidpointUnder y (root x) x
below_root x y m k r u l =
    let c = m * 2 ^ k in
    let d = r.q * 2 ^ r.g in
    midpoint_under y (root x) x c d r.n (2 ^ 1074) (pow_pos 1074) u.value r.root_is r.value
    (subst (λ (z : ℕ). (c + d) * (c + d) < z) (sym r.scale) (go (eq-or-lt_of_le r.least)))
  where
    square : (a q : ℕ) → 2 ^ 52 ≡ q → 2 ^ 104 ≤ a → q * q ≤ a
    square a q e h = subst (λ (z : ℕ). z * z ≤ a) e h

    go : (2 ^ 52 ≡ r.q) ⊎ (2 ^ 52 < r.q)
        → (m * 2 ^ k + r.q * 2 ^ r.g) * (m * 2 ^ k + r.q * 2 ^ r.g) < 4 * r.a * (2 ^ r.g * 2 ^ r.g)
    go (inl e) = under_least r.a r.q (m * 2 ^ k) (2 ^ r.g) r.near (pow_pos r.g)
        (square r.a r.q e r.large) l
    go (inr b) = under_next r.a r.q (m * 2 ^ k) (2 ^ r.g) r.near (pow_pos r.g)
        (lt_of_lt_of_le (pow_pos 52) r.least) (next_below 53 m k r.g r.q u.short b l)

above_root : (x y : Float) (m k : ℕ) (r : Rooted x) → Units binary64 y false m k → r.q * 2 ^ r.g < m * 2 ^ k
    → MidpointOver y (root x) x
above_root x y m k r u l =
    let c = m * 2 ^ k in
    let d = r.q * 2 ^ r.g in
    midpoint_over y (root x) x c d r.n (2 ^ 1074) (pow_pos 1074) u.value r.root_is r.value
    (subst (λ (z : ℕ). z < (c + d) * (c + d)) (sym r.scale)
    (over_next r.a r.q c (2 ^ r.g) r.near (pow_pos r.g)
    (next_above 53 m k r.g r.q u.short r.least l)))

-- a y below the root: the root of x is above the midpoint of the two
pub nearer_than_below : (x y : Float) → T (fits binary64 x) → T (positive x) → T (fits binary64 y) → T (unsigned y)
    → T (lt y (root x)) → MidpointUnder y (root x) x
nearer_than_below x nan f p h s l = absurd s
nearer_than_below x (inf t) f p h s l = absurd s
nearer_than_below x (fin true m e) f p h s l = absurd s
nearer_than_below x (fin false m e) f p h s l =
    let r = rooted x f p in
    let u = units binary64 false m e h in
    below_root x (fin false m e) m u.0 r u.1
    (ltb→lt (m * 2 ^ u.0) (r.q * 2 ^ r.g)
    (subst T (lt_values (fin false m e) (root x) false false (m * 2 ^ u.0) (r.q * 2 ^ r.g) (2 ^ 1074)
    (pow_pos 1074) u.1.value r.root_is) l))

-- a y above it: the root of x is below the midpoint
pub nearer_than_above : (x y : Float) → T (fits binary64 x) → T (positive x) → T (fits binary64 y) → T (unsigned y)
    → T (lt (root x) y) → MidpointOver y (root x) x
nearer_than_above x nan f p h s l = absurd s
nearer_than_above x (inf t) f p h s l = absurd s
nearer_than_above x (fin true m e) f p h s l = absurd s
nearer_than_above x (fin false m e) f p h s l =
    let r = rooted x f p in
    let u = units binary64 false m e h in
    above_root x (fin false m e) m u.0 r u.1
    (ltb→lt (r.q * 2 ^ r.g) (m * 2 ^ u.0)
    (subst T (lt_values (root x) (fin false m e) false false (r.q * 2 ^ r.g) (m * 2 ^ u.0) (2 ^ 1074)
    (pow_pos 1074) r.root_is u.1.value) l))

-- ---- the square of the root is within one part in 2 ^ 52 of x
pub square_near : (x : Float) → T (fits binary64 x) → T (positive x)
    → ((2 ^ 52 - 1) * (num (root x) * num (root x)) * den x ≤ 2 ^ 52 * num x * (den (root x) * den (root x)))
    × (2 ^ 52 * num x * (den (root x) * den (root x)) ≤ (2 ^ 52 + 1) * (num (root x) * num (root x)) * den x)
square_near x f p =
    let r = rooted x f p in
    let e = 2 ^ r.g in
    let d = r.q * e in
    let w = same r.n (2 ^ 1074) r.a (e * e) r.scale in
    let l = mul-le-mul_right r.q r.least in (
      square_le (root x) x d r.n (2 ^ 1074) (2 ^ 52 - 1) (2 ^ 52) r.root_is r.value (pow_pos 1074)
          (le_trans (le_of_eq (pair (2 ^ 52 - 1) r.q e))
          (le_trans (mul-le-mul_right (e * e) (low r.q r.a l r.near.0))
          (le_of_eq (mul_assoc (2 ^ 52) r.a (e * e) ∙ ap (λ (z : ℕ). 2 ^ 52 * z) (sym w))))),
      square_ge (root x) x d r.n (2 ^ 1074) (2 ^ 52 + 1) (2 ^ 52) r.root_is r.value (pow_pos 1074)
          (le_trans (le_of_eq (ap (λ (z : ℕ). 2 ^ 52 * z) w ∙ sym (mul_assoc (2 ^ 52) r.a (e * e))))
          (le_trans (mul-le-mul_right (e * e) (high r.q r.a l r.near.1))
          (le_of_eq (sym (pair (2 ^ 52 + 1) r.q e))))),
    )
  where
    same : (n w a e : ℕ) → 4 * n * w ≡ 4 * a * e → n * w ≡ a * e
    same n w a e h = omega arith

    pair : (i q e : ℕ) → i * (q * e * (q * e)) ≡ i * (q * q) * (e * e)
    pair i q e = omega arith

    low : (q a : ℕ) → 2 ^ 52 * q ≤ q * q → q * q < a + q → (2 ^ 52 - 1) * (q * q) ≤ 2 ^ 52 * a
    low q a l h = omega arith

    high : (q a : ℕ) → 2 ^ 52 * q ≤ q * q → a ≤ q * q + q → 2 ^ 52 * a ≤ (2 ^ 52 + 1) * (q * q)
    high q a l h = omega arith
