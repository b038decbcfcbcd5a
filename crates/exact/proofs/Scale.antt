-- The working form of a fraction: `At D x p n` says that x is (p - n) / D. At one scale D the order of fractions is an
-- order of naturals, sums are sums and products are products, so a linear fact about fractions is one omega about
-- naturals. Provides: `at_le`, `le_at`, `at_lt`, `lt_at`, `at_eq`, `eq_at` (both ways), `at_own`, `at_more`,
-- `at_ratio`, `at_change`, `at_neg`, `at_add`, `at_sub`, `at_mul`, and `common`, one scale for a list of fractions;
-- `turn`. Assumes nothing.
use mathlib.Core.Path.{◌≡◌, sym, ap, ◌∙◌, subst}
use mathlib.Core.List.{List, [], ◌∷◌}
use Prim.Native.Nat.{ℕ, suc, ◌+◌, ◌-◌, ◌*◌, ◌≤◌, ◌<◌}
use native.Mathlib.Nat.{
  mul-pos,
  mul-le-mul_right,
  le_of_mul-le-mul_right,
  eq_of_mul-eq-mul_right,
  zero-lt-suc,
  mul_comm,
  le_of_eq,
  le_antisymm,
  lt_of_not-le,
  not-le_of_lt,
}
use native.Mathlib.Omega.{arith}
use Rattle.exact.specs.Fraction.{Fraction, over, ratio, ◌≤F◌, ◌<F◌, ◌≈◌, under_both, neg_f, ◌+F◌, ◌-F◌, ◌*F◌}

pub record At (D : ℕ) (x : Fraction) (p n : ℕ) : Type 0 where
  pub at : x.plus * D + n * over x ≡ p * over x + x.minus * D

pub over_pos : (x : Fraction) → 0 < over x
over_pos x = zero-lt-suc x.under

times : (k : ℕ) {a b : ℕ} → a ≡ b → a * k ≡ b * k
times k e = ap (λ (z : ℕ). z * k) e

-- ---- the order, both ways
cross_le : (D p n q m a b d c f e : ℕ) → a * D + n * d ≡ p * d + b * D → c * D + m * e ≡ q * e + f * D → p + m ≤ q + n
    → (a * e + f * d) * D ≤ (c * d + b * e) * D
cross_le D p n q m a b d c f e x y h =
    let x' : (a * D + n * d) * e ≡ (p * d + b * D) * e = times e x in
    let y' : (c * D + m * e) * d ≡ (q * e + f * D) * d = times d y in
    let h' : (p + m) * (d * e) ≤ (q + n) * (d * e) = mul-le-mul_right (d * e) h in
    omega arith

uncross_le : (D p n q m a b d c f e : ℕ) → a * D + n * d ≡ p * d + b * D → c * D + m * e ≡ q * e + f * D
    → a * e + f * d ≤ c * d + b * e → (p + m) * (d * e) ≤ (q + n) * (d * e)
uncross_le D p n q m a b d c f e x y h =
    let x' : (a * D + n * d) * e ≡ (p * d + b * D) * e = times e x in
    let y' : (c * D + m * e) * d ≡ (q * e + f * D) * d = times d y in
    let h' : (a * e + f * d) * D ≤ (c * d + b * e) * D = mul-le-mul_right D h in
    omega arith

module _ (D : ℕ) (D0 : 0 < D) {x y : Fraction} {p n q m : ℕ} (X : At D x p n) (Y : At D y q m) where
  pub at_le : p + m ≤ q + n → x ≤F y
  at_le h = record {
    le = le_of_mul-le-mul_right
        (cross_le D p n q m x.plus x.minus (over x) y.plus y.minus (over y) X.at Y.at h) D0;
  }

  pub le_at : x ≤F y → p + m ≤ q + n
  le_at h =
      le_of_mul-le-mul_right
      (uncross_le D p n q m x.plus x.minus (over x) y.plus y.minus (over y) X.at Y.at h.le)
      (mul-pos (over_pos x) (over_pos y))

  pub at_lt : p + m < q + n → x <F y
  at_lt h = record {
    lt = lt_of_not-le (λ (g : y.plus * over x + x.minus * over y ≤ x.plus * over y + y.minus * over x).
        not-le_of_lt h
        (le_of_mul-le-mul_right
        (uncross_le D q m p n y.plus y.minus (over y) x.plus x.minus (over x) Y.at X.at g)
        (mul-pos (over_pos y) (over_pos x))));
  }

  pub lt_at : x <F y → p + m < q + n
  lt_at h = lt_of_not-le (λ (g : q + n ≤ p + m). not-le_of_lt h.lt
      (le_of_mul-le-mul_right (cross_le D q m p n y.plus y.minus (over y) x.plus x.minus (over x) Y.at
      X.at g) D0))

  pub at_eq : p + m ≡ q + n → x ≈ y
  at_eq h = record {
    eq = le_antisymm
        (at_le (le_of_eq h)).le
        (le_of_mul-le-mul_right (cross_le D q m p n y.plus y.minus (over y) x.plus x.minus (over x) Y.at
        X.at (le_of_eq (sym h))) D0);
  }

  pub eq_at : x ≈ y → p + m ≡ q + n
  eq_at h = le_antisymm (le_at (record { le = le_of_eq h.eq }))
      (le_of_mul-le-mul_right
      (uncross_le D q m p n y.plus y.minus (over y) x.plus x.minus (over x) Y.at X.at
      (le_of_eq (sym h.eq)))
      (mul-pos (over_pos y) (over_pos x)))

-- ---- where a scale comes from
pub at_own : (x : Fraction) (r : ℕ) → At (over x * r) x (x.plus * r) (x.minus * r)
at_own x r = record { at = go x.plus x.minus (over x) r }
  where
    go : (a b d r : ℕ) → a * (d * r) + b * r * d ≡ a * r * d + b * (d * r)
    go a b d r = omega arith

pub at_more : (D k : ℕ) {x : Fraction} {p n : ℕ} → At D x p n → At (D * k) x (p * k) (n * k)
at_more D k {x} {p} {n} X = record { at = go x.plus x.minus (over x) D k p n X.at }
  where
    go : (a b d D k p n : ℕ) → a * D + n * d ≡ p * d + b * D → a * (D * k) + n * k * d ≡ p * k * d + b * (D * k)
    go a b d D k p n h = let h' : (a * D + n * d) * k ≡ (p * d + b * D) * k = times k h in omega arith

pub at_ratio : (p m d : ℕ) → 0 < d → At d (ratio p m d) p m
at_ratio p m d h = record { at = go p m d (suc (d - 1)) (omega arith) }
  where
    go : (p m d d' : ℕ) → d' ≡ d → p * d + m * d' ≡ p * d' + m * d
    go p m d d' e = let a : p * d' ≡ p * d = ap (λ (z : ℕ). p * z) e in let b : m * d' ≡ m * d =
        ap (λ (z : ℕ). m * z) e in omega arith

-- the same number at another scale
pub at_change : {r : Fraction} (d E a b p n : ℕ) → 0 < d → At d r a b → a * E + n * d ≡ p * d + b * E → At E r p n
at_change {r} d E a b p n d0 R h =
    record {
      at = eq_of_mul-eq-mul_right d d0 (r.plus * E + n * over r) (p * over r + r.minus * E)
          (go r.plus r.minus (over r) d E a b p n R.at h);
    }
  where
    go : (u w o d E a b p n : ℕ) → u * d + b * o ≡ a * o + w * d → a * E + n * d ≡ p * d + b * E
        → (u * E + n * o) * d ≡ (p * o + w * E) * d
    go u w o d E a b p n h k =
        let h' : (u * d + b * o) * E ≡ (a * o + w * d) * E = times E h in
        let k' : (a * E + n * d) * o ≡ (p * d + b * E) * o = times o k in
        omega arith

-- ---- the operations at a scale
-- the other way round
pub turn : (a b d D p n : ℕ) → a * D + n * d ≡ p * d + b * D → b * D + p * d ≡ n * d + a * D
turn a b d D p n h = omega arith

pub at_neg : {D : ℕ} {x : Fraction} {p n : ℕ} → At D x p n → At D (neg_f x) n p
unfolding neg_f
at_neg {D} {x} {p} {n} X = record { at = turn x.plus x.minus (over x) D p n X.at }

pub at_add : {D : ℕ} {x y : Fraction} {p n q m : ℕ} → At D x p n → At D y q m → At D (x +F y) (p + q) (n + m)
unfolding ◌+F◌
at_add {D} {x} {y} {p} {n} {q} {m} X Y =
    record { at = go x.plus x.minus x.under y.plus y.minus y.under D p n q m X.at Y.at }
  where
    go : (a b u c f v D p n q m : ℕ) → a * D + n * suc u ≡ p * suc u + b * D → c * D + m * suc v ≡ q * suc v + f * D
        → (a * suc v + c * suc u) * D + (n + m) * suc (under_both u v) ≡ (p + q) * suc (under_both u v)
        + (b * suc v + f * suc u) *
        D
    go a b u c f v D p n q m h k =
        let h' : (a * D + n * suc u) * suc v ≡ (p * suc u + b * D) * suc v = times (suc v) h in
        let k' : (c * D + m * suc v) * suc u ≡ (q * suc v + f * D) * suc u = times (suc u) k in
        omega arith

pub at_sub : {D : ℕ} {x y : Fraction} {p n q m : ℕ} → At D x p n → At D y q m → At D (x -F y) (p + m) (n + q)
unfolding ◌-F◌
at_sub X Y = at_add X (at_neg Y)

-- (a - b) (c - f) = (p - n) (q - m) from a - b = p - n and c - f = q - m
products : (a b c f p n q m : ℕ) → a + n ≡ p + b → c + m ≡ q + f
    → a * c + b * f + (p * m + n * q) ≡ p * q + n * m + (a * f + b * c)
products a b c f p n q m h k =
    let h1 : (a + n) * c ≡ (p + b) * c = times c h in
    let h2 : (a + n) * f ≡ (p + b) * f = times f h in
    let k1 : (c + m) * p ≡ (q + f) * p = times p k in
    let k2 : (c + m) * n ≡ (q + f) * n = times n k in
    omega arith

pub at_mul : {D E : ℕ} {x y : Fraction} {p n q m : ℕ} → At D x p n → At E y q m
    → At (D * E) (x *F y) (p * q + n * m) (p * m + n * q)
unfolding ◌*F◌
at_mul {D} {E} {x} {y} {p} {n} {q} {m} X Y =
    record { at = go x.plus x.minus x.under y.plus y.minus y.under D E p n q m X.at Y.at }
  where
    left : (a b c f D E p m n q s t : ℕ)
        → (a * c + b * f) * (D * E) + (p * m + n * q) * (s * t) ≡ a * D * (c * E) + b * D * (f * E)
        + (p * s * (m * t) + n * s * (q * t))
    left a b c f D E p m n q s t = omega arith

    go : (a b u c f v D E p n q m : ℕ) → a * D + n * suc u ≡ p * suc u + b * D → c * E + m * suc v ≡ q * suc v + f * E
        → (a * c + b * f) * (D * E) + (p * m + n * q) * suc (under_both u v) ≡ (p * q + n * m) * suc (under_both u v)
        + (a * f + b * c) * (D * E)
    go a b u c f v D E p n q m h k =
        let w : suc (under_both u v) ≡ suc u * suc v = omega arith in
        ap (λ (z : ℕ). (a * c + b * f) * (D * E) + (p * m + n * q) * z) w
        ∙ left a b c f D E p m n q (suc u) (suc v)
        ∙ products (a * D) (b * D) (c * E) (f * E) (p * suc u) (n * suc u) (q * suc v) (m * suc v) h k
        ∙ sym (left p n q m (suc u) (suc v) a f b c D E)
        ∙ ap (λ (z : ℕ). (p * q + n * m) * z + (a * f + b * c) * (D * E)) (sym w)

-- ---- one scale for several fractions; the continuation sees the scale and the parts as variables, which keeps omega's
-- atoms few
abbrev pub AllAt : ℕ → List Fraction → Type 0
AllAt D [] = Unit {0}
AllAt D (x ∷ xs) = ((p : ℕ) × (n : ℕ) × At D x p n) × AllAt D xs

more_all : (D k : ℕ) (xs : List Fraction) → AllAt D xs → AllAt (D * k) xs
more_all D k [] A = tt
more_all D k (x ∷ xs) A = ((A.0.0 * k, A.0.1 * k, at_more D k A.0.2), more_all D k xs A.1)

pub common : {R : Type 0} (xs : List Fraction) → ((D : ℕ) → 0 < D → AllAt D xs → R) → R
common [] k = k 1 (zero-lt-suc 0) tt
common (x ∷ xs) k =
    common xs (λ D D0 A. k (D * over x) (mul-pos D0 (over_pos x)) (
      (
        x.plus * D,
        x.minus * D,
        subst (λ (z : ℕ). At z x (x.plus * D) (x.minus * D)) (mul_comm (over x) D)
            (at_own x D),
      ),
      more_all D (over x) xs A,
    ))
