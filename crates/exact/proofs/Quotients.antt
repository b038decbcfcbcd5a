-- Quotients of fractions: at one scale x / y is (p - n) / (q - m), so that x / y times y is x; the order and the
-- distances follow by multiplying with a divisor above 0. Provides: `at_div`, `at_div_neg` (the working form);
-- `div_mul_pos`, `div_mul_neg`, `div_mul` (x / y times y is x), `div_le`, `le_div`, `div_only`, `within_cancel`,
-- `within_div`. Assumes nothing.
use mathlib.Core.Path.{◌≡◌, sym, ap, ◌∙◌, subst}
use mathlib.Core.List.{[], ◌∷◌}
use mathlib.Core.Logic.{⊎_elim}
use mathlib.Core.Bool.{Bool, true, false, not, cond}
use Prim.Native.Nat.{ℕ, ◌+◌, ◌-◌, ◌*◌, ◌≤◌, ◌<◌}
use native.Mathlib.Nat.{mul-pos}
use native.Mathlib.Nat as N
use native.Mathlib.Omega.{arith}
use lib.Dec.{T, ltb, ltb→lt, nltb→le}
use Rattle.exact.specs.Fraction.{Fraction, over, ratio, frac, ◌≤F◌, ◌<F◌, ◌≈◌, ◌+F◌, ◌*F◌, ◌/F◌, abs_f, Within}
use Rattle.exact.proofs.Scale.{At, lt_at, at_eq, at_more, at_ratio, at_change, turn, at_mul, over_pos, common}
use Rattle.exact.proofs.Near.{
  le_refl,
  le_trans,
  le_antisym,
  eq_le,
  add_mono,
  within_open,
  within_close,
  within_trans,
  within_sym,
}
use Rattle.exact.proofs.Products.{
  eq_refl,
  ◌⨟◌,
  back,
  at_zero,
  lt_or_le,
  lt_le_trans,
  le_same,
  mul_comm,
  mul_zero,
  add_mul,
  mul_le,
  mul_cancel_le,
}
use Rattle.exact.proofs.NearProducts.{within_like, mul_within, within_nonneg}

-- ---- the working form
-- (u - w) D is o (q - m), with both differences above 0
gap : (u w o D q m : ℕ) → 0 < o → u * D + m * o ≡ q * o + w * D → m < q → (w < u) × (o * (q - m) ≡ (u - w) * D)
gap u w o D q m o0 h k =
    let l : w < u = N.lt_of_not-le
    (λ (g : u ≤ w). N.not-le_of_lt (N.mul-lt-mul_of_pos_right k o0)
    (under (u * D) (w * D) (m * o) (q * o) h (N.mul-le-mul_right D g))) in (
      l,
      go (u - w) (q - m) w m o D (ap (λ (z : ℕ). z * D + m * o) (whole w u l) ∙ h
          ∙ ap (λ (z : ℕ). z * o + w * D) (sym (whole m q k))),
    )
  where
    under : (a b c d : ℕ) → a + c ≡ d + b → a ≤ b → d ≤ c
    under a b c d h k = omega arith

    whole : (n p : ℕ) → n < p → n + (p - n) ≡ p
    whole n p h = omega arith

    go : (j i w m o D : ℕ) → (w + j) * D + m * o ≡ (m + i) * o + w * D → o * i ≡ j * D
    go j i w m o D h = omega arith

quotient : (a b d e D E k p n : ℕ) → 0 < d → 0 < k → a * D + n * d ≡ p * d + b * D → e * E ≡ k * D
    → At E (ratio (a * e) (b * e) (d * k)) p n
quotient a b d e D E k p n d0 k0 h g =
    at_change (d * k) E (a * e) (b * e) p n (mul-pos d0 k0) (at_ratio (a * e) (b * e) (d * k) (mul-pos d0 k0))
    (let h' : (a * D + n * d) * k ≡ (p * d + b * D) * k = ap (λ (z : ℕ). z * k) h in
    let g1 : a * (e * E) ≡ a * (k * D) = ap (λ (z : ℕ). a * z) g in
    let g2 : b * (e * E) ≡ b * (k * D) = ap (λ (z : ℕ). b * z) g in
    omega arith)

positive : (w u : ℕ) → w < u → 0 < u - w
positive w u h = omega arith

module _ {D : ℕ} {x y : Fraction} {p n q m : ℕ} (X : At D x p n) (Y : At D y q m) where
  abbrev By : Bool → Fraction
  By t = cond t (ratio (x.plus * over y) (x.minus * over y) (over x * (y.plus - y.minus)))
      (ratio (x.minus * over y) (x.plus * over y) (over x * (y.minus - y.plus)))

  pub at_div : m < q → At (q - m) (x /F y) p n
  unfolding ◌/F◌
  at_div h = pick (ltb y.minus y.plus) (nltb→le y.minus y.plus)
      (gap y.plus y.minus (over y) D q m (over_pos y) Y.at h)
    where
      pick : (t : Bool) → (T (not t) → y.plus ≤ y.minus) → (y.minus < y.plus)
          × (over y * (q - m) ≡ (y.plus - y.minus) * D) → At (q - m) (By t) p n
      pick true k g = quotient x.plus x.minus (over x) (over y) D (q - m) (y.plus - y.minus) p n (over_pos x)
          (positive y.minus y.plus g.0) X.at g.1
      pick false k g = absurd (N.not-le_of_lt g.0 (k tt))

  pub at_div_neg : q < m → At (m - q) (x /F y) n p
  unfolding ◌/F◌
  at_div_neg h =
      pick (ltb y.minus y.plus) (ltb→lt y.minus y.plus)
      (gap y.minus y.plus (over y) D m q (over_pos y) (turn y.plus y.minus (over y) D q m Y.at) h)
    where
      pick : (t : Bool) → (T t → y.minus < y.plus) → (y.plus < y.minus)
          × (over y * (m - q) ≡ (y.minus - y.plus) * D) → At (m - q) (By t) n p
      pick true k g = absurd (N.not-le_of_lt g.0 (N.le_of_lt (k tt)))
      pick false k g =
          quotient x.minus x.plus (over x) (over y) D (m - q) (y.minus - y.plus) n p (over_pos x)
          (positive y.plus y.minus g.0)
          (turn x.plus x.minus (over x) D p n X.at) g.1

-- ---- x / y times y is x
module _ (x y : Fraction) where
  pub div_mul_pos : frac 0 1 <F y → (x /F y) *F y ≈ x
  div_mul_pos h =
      common (x ∷ y ∷ [])
      (λ D D0 ((p, n, X), ((q, m, Y), _)). let l = lt_at D D0 (at_zero D) Y h in let g : m < q = omega arith in
      at_eq ((q - m) * D) (mul-pos (positive m q g) D0) (at_mul (at_div X Y g) Y)
      (subst (λ (z : ℕ). At z x (p * (q - m)) (n * (q - m))) (N.mul_comm D (q - m)) (at_more D (q - m) X))
      (go p n q m (q - m) (omega arith)))
    where
      go : (p n q m j : ℕ) → q ≡ m + j → p * q + n * m + n * j ≡ p * j + (p * m + n * q)
      go p n q m j e = let a = ap (λ (z : ℕ). p * z) e in let b = ap (λ (z : ℕ). n * z) e in omega arith

  pub div_mul_neg : y <F frac 0 1 → (x /F y) *F y ≈ x
  div_mul_neg h =
      common (x ∷ y ∷ [])
      (λ D D0 ((p, n, X), ((q, m, Y), _)). let l = lt_at D D0 Y (at_zero D) h in let g : q < m = omega arith in
      at_eq ((m - q) * D) (mul-pos (positive q m g) D0) (at_mul (at_div_neg X Y g) Y)
      (subst (λ (z : ℕ). At z x (p * (m - q)) (n * (m - q))) (N.mul_comm D (m - q)) (at_more D (m - q) X))
      (go p n q m (m - q) (omega arith)))
    where
      go : (p n q m j : ℕ) → m ≡ q + j → n * q + p * m + n * j ≡ p * j + (n * m + p * q)
      go p n q m j e = let a = ap (λ (z : ℕ). p * z) e in let b = ap (λ (z : ℕ). n * z) e in omega arith

  pub div_mul : (y ≈ frac 0 1 → ⊥) → (x /F y) *F y ≈ x
  div_mul h = ⊎_elim div_mul_pos
      (λ (l : y ≤F frac 0 1). ⊎_elim div_mul_neg (λ (g : frac 0 1 ≤F y). absurd (h (le_antisym y (frac 0 1) l g)))
      (lt_or_le y (frac 0 1))) (lt_or_le (frac 0 1) y)

-- ---- the order, for a divisor above 0
module _ (x y z : Fraction) (y0 : frac 0 1 <F y) where
  pub div_le : x ≤F z *F y → x /F y ≤F z
  div_le h = mul_cancel_le y0 (le_same (back (div_mul_pos x y y0)) (eq_refl (z *F y)) h)

  pub le_div : z *F y ≤F x → z ≤F x /F y
  le_div h = mul_cancel_le y0 (le_same (eq_refl (z *F y)) (back (div_mul_pos x y y0)) h)

  -- the quotient is the one number that gives x when multiplied by y
  pub div_only : z *F y ≈ x → x /F y ≈ z
  div_only h = le_antisym (x /F y) z (div_le (eq_le x (z *F y) (back h))) (le_div (eq_le (z *F y) x h))

-- ---- distances: (u - u') y is (x - x') + u' (y' - y), where u = x / y and u' = x' / y'
module _ (u u' c b y : Fraction) (b0 : frac 0 1 <F b) (by : b ≤F y) where
  -- from the products with y to the numbers themselves
  pub within_cancel : Within (u *F y) (u' *F y) c → Within u u' (c /F b)
  within_cancel h = within_close u u' (c /F b) (half u u' (within_open (u *F y) (u' *F y) c h).0)
      (half u' u (within_open (u *F y) (u' *F y) c h).1)
    where
      g0 : frac 0 1 ≤F c /F b
      g0 = le_div c b (frac 0 1) b0
          (le_same (back (mul_zero b) ⨟ mul_comm b (frac 0 1)) (eq_refl c) (within_nonneg (u *F y) (u' *F y) c h))

      big : c ≤F (c /F b) *F y
      big = le_same (div_mul_pos c b b0) (eq_refl ((c /F b) *F y)) (mul_le g0 by)

      half : (w w' : Fraction) → w *F y ≤F w' *F y +F c → w ≤F w' +F c /F b
      half w w' h =
          mul_cancel_le (lt_le_trans b0 by) (le_same (eq_refl (w *F y)) (back (add_mul w' (c /F b) y))
          (le_trans (w *F y) (w' *F y +F c) (w' *F y +F (c /F b) *F y) h
          (add_mono (w' *F y) (w' *F y) c ((c /F b) *F y) (le_refl (w' *F y) (w' *F y)) big)))

module _ (x x' y y' e f b q : Fraction) (b0 : frac 0 1 <F b) (by : b ≤F y) (y0 : frac 0 1 <F y') where
  pub within_div : abs_f (x' /F y') ≤F q → Within x x' e → Within y y' f
      → Within (x /F y) (x' /F y') ((e +F q *F f) /F b)
  within_div k h g =
      within_cancel (x /F y) (x' /F y') (e +F q *F f) b y b0 by
      (within_like (back (div_mul_pos x y (lt_le_trans b0 by))) (eq_refl ((x' /F y') *F y)) (eq_refl (e +F q *F f))
      (within_trans x x' ((x' /F y') *F y) e (q *F f) h
      (within_like (div_mul_pos x' y' y0) (eq_refl ((x' /F y') *F y)) (eq_refl (q *F f))
      (mul_within y' y f (x' /F y') q k (within_sym y y' f g)))))
