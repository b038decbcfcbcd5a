-- Distances between fractions: |x - y| ≤ e is two linear facts at a common scale, so each law here is one omega.
-- Provides: `within_at`, `at_within` (the working form, both ways); `within_open`, `within_close` (as two inequalities
-- of fractions); `within_same`, `within_sym`, `within_trans`, `within_more`, `within_add`, `within_sub`, and the
-- order's own laws. Assumes nothing.
use mathlib.Core.Path.{◌≡◌, sym, ap, ◌∙◌}
use mathlib.Core.List.{[], ◌∷◌}
use mathlib.Core.Logic.{◌⊎◌, inl, inr, ⊎_elim}
use mathlib.Core.Bool.{Bool, true, false, not, cond}
use Prim.Native.Nat.{ℕ, ◌+◌, ◌-◌, ◌*◌, ◌≤◌, ◌<◌}
use native.Mathlib.Nat.{le_of_mul-le-mul_right, mul-le-mul_right, le_of_lt}
use native.Mathlib.Omega.{arith}
use lib.Dec.{T, leb, leb→le, nleb→lt}
use Rattle.exact.specs.Fraction.{Fraction, over, frac, ◌≤F◌, ◌<F◌, ◌≈◌, ◌+F◌, ◌-F◌, abs_f, distance, Within}
use Rattle.exact.proofs.Scale.{At, at_le, le_at, lt_at, at_eq, eq_at, turn, at_add, at_sub, over_pos, common}

-- ---- the absolute value is x or -x
same : (a b d D p n : ℕ) → b ≤ a → a * D + n * d ≡ p * d + b * D → (a - b) * D + n * d ≡ p * d + 0 * D
same a b d D p n h e =
    let c : (a - b) * D + b * D ≡ a * D = sym (split (a - b) b D) ∙ ap (λ (z : ℕ). z * D) (back a b h) in
    omega arith
  where
    split : (x y k : ℕ) → (x + y) * k ≡ x * k + y * k
    split x y k = omega arith

    back : (a b : ℕ) → b ≤ a → a - b + b ≡ a
    back a b h = omega arith

below : (a b d D p n : ℕ) → 0 < d → b ≤ a → a * D + n * d ≡ p * d + b * D → n ≤ p
below a b d D p n d0 h e =
    le_of_mul-le-mul_right (let k : b * D ≤ a * D = mul-le-mul_right D h in let g : n * d ≤ p * d = omega arith in g) d0

abbrev AbsAt : ℕ → Fraction → ℕ → ℕ → Type 0
AbsAt D x p n = (At D x p n × (n ≤ p)) ⊎ (At D x n p × (p ≤ n))

pub at_abs : {D : ℕ} (x : Fraction) {p n : ℕ} → At D x p n → AbsAt D (abs_f x) p n
unfolding abs_f
at_abs {D} x {p} {n} X = go (leb x.minus x.plus) (leb→le x.minus x.plus) (nleb→lt x.minus x.plus)
  where
    go : (t : Bool) → (T t → x.minus ≤ x.plus) → (T (not t) → x.plus < x.minus)
        → AbsAt D (record { plus = cond t (x.plus - x.minus) (x.minus - x.plus); minus = 0; under = x.under }) p n
    go true a b = inl (
      record { at = same x.plus x.minus (over x) D p n (a tt) X.at },
      below x.plus x.minus (over x) D p n (over_pos x) (a tt) X.at,
    )
    go false a b =
        let e = turn x.plus x.minus (over x) D p n X.at in
        inr (
          record { at = same x.minus x.plus (over x) D n p (le_of_lt (b tt)) e },
          below x.minus x.plus (over x) D n p (over_pos x) (le_of_lt (b tt)) e,
        )

-- ---- the working form of `Within`, both ways
module _ (D : ℕ) (D0 : 0 < D) {x y e : Fraction} {p n q m r s : ℕ} (X : At D x p n) (Y : At D y q m) (E : At D e r s)
  where
    pub within_at : Within x y e → (p + m + s ≤ q + n + r) × (q + n + s ≤ p + m + r)
    unfolding distance
    within_at h = ⊎_elim
        (λ (a : At D (abs_f (x -F y)) (p + m) (n + q) × (n + q ≤ p + m)). let k = le_at D D0 a.0 E h in
        let g = a.1 in
        (omega arith, omega arith))
        (λ (a : At D (abs_f (x -F y)) (n + q) (p + m) × (p + m ≤ n + q)). let k = le_at D D0 a.0 E h in
        let g = a.1 in
        (omega arith, omega arith))
        (at_abs (x -F y) (at_sub X Y))

    pub at_within : p + m + s ≤ q + n + r → q + n + s ≤ p + m + r → Within x y e
    unfolding distance
    at_within h k = ⊎_elim
        (λ (a : At D (abs_f (x -F y)) (p + m) (n + q) × (n + q ≤ p + m)). at_le D D0 a.0 E (omega arith))
        (λ (a : At D (abs_f (x -F y)) (n + q) (p + m) × (p + m ≤ n + q)). at_le D D0 a.0 E (omega arith))
        (at_abs (x -F y) (at_sub X Y))

-- ---- the order
module _ (x y : Fraction) where
  pub le_refl : x ≤F x
  le_refl = common (x ∷ []) (λ D D0 A. at_le D D0 A.0.2 A.0.2 (omega arith))

  pub le_total : (x ≤F y) ⊎ (y ≤F x)
  le_total = common (x ∷ y ∷ []) (λ D D0 A. pick D D0 A.0.2 A.1.0.2)
    where
      pick : (D : ℕ) → 0 < D → {p n q m : ℕ} → At D x p n → At D y q m → (x ≤F y) ⊎ (y ≤F x)
      pick D D0 {p} {n} {q} {m} X Y = go (leb (p + m) (q + n)) (leb→le (p + m) (q + n)) (nleb→lt (p + m) (q + n))
        where
          go : (t : Bool) → (T t → p + m ≤ q + n) → (T (not t) → q + n < p + m) → (x ≤F y) ⊎ (y ≤F x)
          go true a b = inl (at_le D D0 X Y (a tt))
          go false a b = inr (at_le D D0 Y X (le_of_lt (b tt)))

  pub lt_le : x <F y → x ≤F y
  lt_le h = common (x ∷ y ∷ [])
      (λ D D0 A. at_le D D0 A.0.2 A.1.0.2 (let a = lt_at D D0 A.0.2 A.1.0.2 h in omega arith))

  pub eq_le : x ≈ y → x ≤F y
  eq_le h = common (x ∷ y ∷ [])
      (λ D D0 A. at_le D D0 A.0.2 A.1.0.2 (let a = eq_at D D0 A.0.2 A.1.0.2 h in omega arith))

  pub eq_sym : x ≈ y → y ≈ x
  eq_sym h = common (x ∷ y ∷ [])
      (λ D D0 A. at_eq D D0 A.1.0.2 A.0.2 (let a = eq_at D D0 A.0.2 A.1.0.2 h in omega arith))

  pub le_antisym : x ≤F y → y ≤F x → x ≈ y
  le_antisym h k =
      common (x ∷ y ∷ []) (λ D D0 A. at_eq D D0 A.0.2 A.1.0.2 (let a = le_at D D0 A.0.2 A.1.0.2 h in
      let b = le_at D D0 A.1.0.2 A.0.2 k in omega arith))

module _ (x y z : Fraction) where
  pub le_trans : x ≤F y → y ≤F z → x ≤F z
  le_trans h k =
      common (x ∷ y ∷ z ∷ [])
      (λ D D0 A. at_le D D0 A.0.2 A.1.1.0.2 (let a = le_at D D0 A.0.2 A.1.0.2 h in
      let b = le_at D D0 A.1.0.2 A.1.1.0.2 k in omega arith))

  pub eq_trans : x ≈ y → y ≈ z → x ≈ z
  eq_trans h k =
      common (x ∷ y ∷ z ∷ [])
      (λ D D0 A. at_eq D D0 A.0.2 A.1.1.0.2 (let a = eq_at D D0 A.0.2 A.1.0.2 h in
      let b = eq_at D D0 A.1.0.2 A.1.1.0.2 k in omega arith))

-- ---- sums keep the order
module _ (x x' y y' : Fraction) where
  pub add_mono : x ≤F x' → y ≤F y' → x +F y ≤F x' +F y'
  add_mono h k =
      common (x ∷ x' ∷ y ∷ y' ∷ [])
      (λ D D0 A. at_le D D0 (at_add A.0.2 A.1.1.0.2) (at_add A.1.0.2 A.1.1.1.0.2)
      (let a = le_at D D0 A.0.2 A.1.0.2 h in let b = le_at D D0 A.1.1.0.2 A.1.1.1.0.2 k in
      omega arith))

  pub add_same : x ≈ x' → y ≈ y' → x +F y ≈ x' +F y'
  add_same h k =
      common (x ∷ x' ∷ y ∷ y' ∷ [])
      (λ D D0 A. at_eq D D0 (at_add A.0.2 A.1.1.0.2) (at_add A.1.0.2 A.1.1.1.0.2)
      (let a = eq_at D D0 A.0.2 A.1.0.2 h in let b = eq_at D D0 A.1.1.0.2 A.1.1.1.0.2 k in
      omega arith))

-- ---- distances
module _ (x y e : Fraction) where
  pub within_open : Within x y e → (x ≤F y +F e) × (y ≤F x +F e)
  within_open h = (
    common (x ∷ y ∷ e ∷ []) (λ D D0 A. at_le D D0 A.0.2 (at_add A.1.0.2 A.1.1.0.2)
        (let a = within_at D D0 A.0.2 A.1.0.2 A.1.1.0.2 h in omega arith)),
    common (x ∷ y ∷ e ∷ []) (λ D D0 A. at_le D D0 A.1.0.2 (at_add A.0.2 A.1.1.0.2)
        (let a = within_at D D0 A.0.2 A.1.0.2 A.1.1.0.2 h in omega arith)),
  )

  pub within_close : x ≤F y +F e → y ≤F x +F e → Within x y e
  within_close h k =
      common (x ∷ y ∷ e ∷ [])
      (λ D D0 A. let a = le_at D D0 A.0.2 (at_add A.1.0.2 A.1.1.0.2) h in
      let b = le_at D D0 A.1.0.2 (at_add A.0.2 A.1.1.0.2) k in
      at_within D D0 A.0.2 A.1.0.2 A.1.1.0.2 (omega arith) (omega arith))

  pub within_sym : Within x y e → Within y x e
  within_sym h =
      common (x ∷ y ∷ e ∷ [])
      (λ D D0 A. let a = within_at D D0 A.0.2 A.1.0.2 A.1.1.0.2 h in
      at_within D D0 A.1.0.2 A.0.2 A.1.1.0.2 a.1 a.0)

  pub within_same : x ≈ y → frac 0 1 ≤F e → Within x y e
  within_same h k =
      common (x ∷ y ∷ e ∷ frac 0 1 ∷ [])
      (λ D D0 A. let a = eq_at D D0 A.0.2 A.1.0.2 h in
      let b = le_at D D0 A.1.1.1.0.2 A.1.1.0.2 k in let z = zero_at D D0 A.1.1.1.0.2 in
      at_within D D0 A.0.2 A.1.0.2 A.1.1.0.2 (omega arith) (omega arith))
    where
      zero_at : (D : ℕ) → 0 < D → {p n : ℕ} → At D (frac 0 1) p n → p ≡ n
      zero_at D D0 {p} {n} Z = let e = Z.at in omega arith

module _ (x y e f : Fraction) where
  pub within_more : e ≤F f → Within x y e → Within x y f
  within_more k h =
      common (x ∷ y ∷ e ∷ f ∷ [])
      (λ D D0 A. let a = within_at D D0 A.0.2 A.1.0.2 A.1.1.0.2 h in
      let b = le_at D D0 A.1.1.0.2 A.1.1.1.0.2 k in
      at_within D D0 A.0.2 A.1.0.2 A.1.1.1.0.2 (omega arith) (omega arith))

module _ (x y z e f : Fraction) where
  pub within_trans : Within x y e → Within y z f → Within x z (e +F f)
  within_trans h k =
      common (x ∷ y ∷ z ∷ e ∷ f ∷ [])
      (λ D D0 A. let a = within_at D D0 A.0.2 A.1.0.2 A.1.1.1.0.2 h in
      let b = within_at D D0 A.1.0.2 A.1.1.0.2 A.1.1.1.1.0.2 k in
      at_within D D0 A.0.2 A.1.1.0.2 (at_add A.1.1.1.0.2 A.1.1.1.1.0.2) (omega arith)
      (omega arith))

module _ (x x' y y' e f : Fraction) where
  pub within_add : Within x x' e → Within y y' f → Within (x +F y) (x' +F y') (e +F f)
  within_add h k =
      common (x ∷ x' ∷ y ∷ y' ∷ e ∷ f ∷ [])
      (λ D D0 A. let a = within_at D D0 A.0.2 A.1.0.2 A.1.1.1.1.0.2 h in
      let b = within_at D D0 A.1.1.0.2 A.1.1.1.0.2 A.1.1.1.1.1.0.2 k in
      at_within D D0 (at_add A.0.2 A.1.1.0.2) (at_add A.1.0.2 A.1.1.1.0.2)
      (at_add A.1.1.1.1.0.2 A.1.1.1.1.1.0.2) (omega arith) (omega arith))

  pub within_sub : Within x x' e → Within y y' f → Within (x -F y) (x' -F y') (e +F f)
  within_sub h k =
      common (x ∷ x' ∷ y ∷ y' ∷ e ∷ f ∷ [])
      (λ D D0 A. let a = within_at D D0 A.0.2 A.1.0.2 A.1.1.1.1.0.2 h in
      let b = within_at D D0 A.1.1.0.2 A.1.1.1.0.2 A.1.1.1.1.1.0.2 k in
      at_within D D0 (at_sub A.0.2 A.1.1.0.2) (at_sub A.1.0.2 A.1.1.1.0.2)
      (at_add A.1.1.1.1.0.2 A.1.1.1.1.1.0.2) (omega arith) (omega arith))
