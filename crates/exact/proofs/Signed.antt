-- A size with its sign, as a fraction: at one scale its two parts are 0 and the size, by the sign, so the order of two
-- of them is one comparison of naturals, which the float comparisons make too. Provides: `signed_at`, `signed_le`,
-- `le_signed`, `signed_lt`, `lt_signed`, `signed_eq`, `eq_signed` (the order, both ways), `signed_scale` (equal
-- fractions), `has_value` (from the library's words), `neg_value`, `finite_both`, and `lt_value`, `eq_value`,
-- `le_value`: what the comparisons of finite floats say of their values, both ways and for both signs. Assumes nothing.
use mathlib.Core.Path.{◌≡◌, subst}
use mathlib.Core.Logic.{◌⊎◌, inl, inr, ⊎_elim, ◌↔◌}
use mathlib.Core.Bool.{Bool, true, false, ◌||◌, cond}
use Prim.Native.Nat.{ℕ, ◌+◌, ◌*◌, ◌≤◌, ◌<◌}
use native.Mathlib.Nat.{mul_comm, mul-pos, zero-mul, eq-or-lt_of_le}
use native.Mathlib.Omega.{arith}
use lib.IntN.{ℤ}
use lib.Dec.{T, eqb, ltb→lt, lt→ltb, eqb→eq}
use lib.Ieee.{Float, nan, inf, fin, up, down, neg, below, level, lt, eq, le}
use lib.Ieee.Fits.{down_pos, eq→eqb, and_i, and_l, and_r}
use lib.Ieee.Exact.{HasValue}
use lib.Ieee.Scale.{finite}
use Rattle.exact.specs.Fraction.{ratio, value, neg_f, ◌≤F◌, ◌<F◌, ◌≈◌}
use Rattle.exact.specs.Rounds.{signed_f}
use Rattle.exact.proofs.Scale.{At, at_le, le_at, at_lt, lt_at, at_eq, eq_at, at_more, at_ratio}
use Rattle.exact.proofs.Near.{lt_le, eq_le}
use Rattle.exact.proofs.Products.{eq_refl}

-- ---- at a scale
pub signed_at : (s : Bool) (a c k : ℕ) → 0 < c → At (c * k) (signed_f s a c) (cond s 0 (a * k)) (cond s (a * k) 0)
signed_at true a c k C =
    subst (λ (z : ℕ). At (c * k) (ratio 0 a c) z (a * k)) (zero-mul k) (at_more c k (at_ratio 0 a c C))
signed_at false a c k C =
    subst (λ (z : ℕ). At (c * k) (ratio a 0 c) (a * k) z) (zero-mul k) (at_more c k (at_ratio a 0 c C))

-- ---- the order: ±x is at most ±y
abbrev pub Lower : Bool → ℕ → Bool → ℕ → Type 0
Lower s x t y = cond s 0 x + cond t y 0 ≤ cond t 0 y + cond s x 0

abbrev pub Less : Bool → ℕ → Bool → ℕ → Type 0
Less s x t y = cond s 0 x + cond t y 0 < cond t 0 y + cond s x 0

abbrev pub Level : Bool → ℕ → Bool → ℕ → Type 0
Level s x t y = cond s 0 x + cond t y 0 ≡ cond t 0 y + cond s x 0

module _ (s : Bool) (a c : ℕ) (t : Bool) (b d : ℕ) (C : 0 < c) (D : 0 < d) where
  left : At (c * d) (signed_f s a c) (cond s 0 (a * d)) (cond s (a * d) 0)
  left = signed_at s a c d C

  right : At (c * d) (signed_f t b d) (cond t 0 (b * c)) (cond t (b * c) 0)
  right = subst (λ (z : ℕ). At z (signed_f t b d) (cond t 0 (b * c)) (cond t (b * c) 0)) (mul_comm d c)
      (signed_at t b d c D)

  pub signed_le : Lower s (a * d) t (b * c) → signed_f s a c ≤F signed_f t b d
  signed_le h = at_le (c * d) (mul-pos C D) left right h

  pub le_signed : signed_f s a c ≤F signed_f t b d → Lower s (a * d) t (b * c)
  le_signed h = le_at (c * d) (mul-pos C D) left right h

  pub signed_lt : Less s (a * d) t (b * c) → signed_f s a c <F signed_f t b d
  signed_lt h = at_lt (c * d) (mul-pos C D) left right h

  pub lt_signed : signed_f s a c <F signed_f t b d → Less s (a * d) t (b * c)
  lt_signed h = lt_at (c * d) (mul-pos C D) left right h

  pub signed_eq : Level s (a * d) t (b * c) → signed_f s a c ≈ signed_f t b d
  signed_eq h = at_eq (c * d) (mul-pos C D) left right h

  pub eq_signed : signed_f s a c ≈ signed_f t b d → Level s (a * d) t (b * c)
  eq_signed h = eq_at (c * d) (mul-pos C D) left right h

level_self : (s : Bool) (x y : ℕ) → x ≡ y → Level s x s y
level_self true x y e = omega arith
level_self false x y e = omega arith

-- a / c and b / d are one fraction
pub signed_scale : (s : Bool) (a c b d : ℕ) → 0 < c → 0 < d → a * d ≡ b * c → signed_f s a c ≈ signed_f s b d
signed_scale s a c b d C D e = signed_eq s a c s b d C D (level_self s (a * d) (b * c) e)

-- ---- a float's value
pub has_value : (x : Float) (s : Bool) (a c : ℕ) → 0 < c → HasValue x s a c → value x ≈ signed_f s a c
has_value nan s a c C v = absurd v
has_value (inf t) s a c C v = absurd v
has_value (fin t m e) s a c C v =
    subst (λ (z : Bool). signed_f t (m * up e) (down e) ≈ signed_f z a c) v.0
    (signed_scale t (m * up e) (down e) a c (down_pos e) C v.1)

pub has_finite : (x : Float) (s : Bool) (a c : ℕ) → HasValue x s a c → T (finite x)
has_finite nan s a c v = absurd v
has_finite (inf t) s a c v = absurd v
has_finite (fin t m e) s a c v = tt

pub neg_value : (x : Float) → value (neg x) ≈ neg_f (value x)
unfolding neg neg_f
neg_value nan = eq_refl (value nan)
neg_value (inf s) = eq_refl (value nan)
neg_value (fin true m e) = eq_refl (value (fin false m e))
neg_value (fin false m e) = eq_refl (value (fin true m e))

pub neg_finite : (x : Float) → T (finite x) → T (finite (neg x))
unfolding neg
neg_finite nan h = h
neg_finite (inf s) h = h
neg_finite (fin s m e) h = tt

-- ---- the comparisons of finite floats
below_less : (s : Bool) (a : ℕ) (t : Bool) (b : ℕ) → T (below s a t b) ↔ Less s a t b
below_less false a false b = (λ h. let k = ltb→lt a b h in omega arith, λ (h : a + 0 < b + 0). lt→ltb a b (omega arith))
below_less false a true b = (λ h. absurd h, λ (h : a + b < 0 + 0). absurd (none h))
  where
    none : a + b < 0 + 0 → ⊥
    none h = omega arith
below_less true a false b =
    (λ h. let k = ltb→lt 0 (a + b) h in omega arith, λ (h : 0 + 0 < b + a). lt→ltb 0 (a + b) (omega arith))
below_less true a true b = (λ h. let k = ltb→lt b a h in omega arith, λ (h : 0 + b < 0 + a). lt→ltb b a (omega arith))

level_same : (s : Bool) (a : ℕ) (t : Bool) (b : ℕ) → T (level s a t b) ↔ Level s a t b
level_same true a true b = (
  λ h. let k = eqb→eq a b (and_l (eqb a b) true h) in
      omega arith,
  λ (h : 0 + b ≡ 0 + a). and_i (eqb a b) true (eq→eqb {a = a} {b = b} (omega arith)) tt,
)
level_same false a false b = (
  λ h. let k = eqb→eq a b (and_l (eqb a b) true h) in
      omega arith,
  λ (h : a + 0 ≡ b + 0). and_i (eqb a b) true (eq→eqb {a = a} {b = b} (omega arith)) tt,
)
level_same true a false b = (
  λ h. let k = eqb→eq a b (and_l (eqb a b) (eqb a 0) h) in let z = eqb→eq a 0 (and_r (eqb a b) (eqb a 0) h) in
      omega arith,
  λ (h : 0 + 0 ≡ b + a). and_i (eqb a b) (eqb a 0) (eq→eqb {a = a} {b = b} (omega arith))
      (eq→eqb {a = a} {b = 0} (omega arith)),
)
level_same false a true b = (
  λ h. let k = eqb→eq a b (and_l (eqb a b) (eqb a 0) h) in let z = eqb→eq a 0 (and_r (eqb a b) (eqb a 0) h) in
      omega arith,
  λ (h : a + b ≡ 0 + 0). and_i (eqb a b) (eqb a 0) (eq→eqb {a = a} {b = b} (omega arith))
      (eq→eqb {a = a} {b = 0} (omega arith)),
)

-- two finite floats are two sizes with their signs
pub finite_both : (P : Float → Float → Type 0)
    → ((s : Bool) (m : ℕ) (e : ℤ) (t : Bool) (n : ℕ) (d : ℤ) → P (fin s m e) (fin t n d)) → (x y : Float)
    → T (finite x) → T (finite y) → P x y
finite_both P k nan y p q = absurd p
finite_both P k (inf s) y p q = absurd p
finite_both P k (fin s m e) nan p q = absurd q
finite_both P k (fin s m e) (inf t) p q = absurd q
finite_both P k (fin s m e) (fin t n d) p q = k s m e t n d

pub lt_value : (x y : Float) → T (finite x) → T (finite y) → T (lt x y) ↔ (value x <F value y)
unfolding lt
lt_value = finite_both (λ x y. T (lt x y) ↔ (value x <F value y))
    (λ s m e t n d. let k = below_less s (m * up e * down d) t (n * up d * down e) in (
      λ h. signed_lt s (m * up e) (down e) t (n * up d) (down d) (down_pos e) (down_pos d) (k.0 h),
      λ h. k.1 (lt_signed s (m * up e) (down e) t (n * up d) (down d) (down_pos e) (down_pos d) h),
    ))

pub eq_value : (x y : Float) → T (finite x) → T (finite y) → T (eq x y) ↔ (value x ≈ value y)
unfolding eq
eq_value = finite_both (λ x y. T (eq x y) ↔ (value x ≈ value y))
    (λ s m e t n d. let k = level_same s (m * up e * down d) t (n * up d * down e) in (
      λ h. signed_eq s (m * up e) (down e) t (n * up d) (down d) (down_pos e) (down_pos d) (k.0 h),
      λ h. k.1 (eq_signed s (m * up e) (down e) t (n * up d) (down d) (down_pos e) (down_pos d) h),
    ))

or_split : (a b : Bool) → T (a || b) → T a ⊎ T b
or_split true b t = inl tt
or_split false b t = inr t

or_join : (a b : Bool) → T a ⊎ T b → T (a || b)
or_join true b h = tt
or_join false b (inl h) = absurd h
or_join false b (inr h) = h

pub le_value : (x y : Float) → T (finite x) → T (finite y) → T (le x y) ↔ (value x ≤F value y)
unfolding le
le_value x y p q =
    let less = lt_value x y p q in
    let same = eq_value x y p q in (
      λ h. ⊎_elim (λ (k : T (lt x y)). lt_le (value x) (value y) (less.0 k))
          (λ (k : T (eq x y)). eq_le (value x) (value y) (same.0 k)) (or_split (lt x y) (eq x y) h),
      λ (h : value x ≤F value y).
          or_join (lt x y) (eq x y)
          (⊎_elim (λ (k : value x ≈ value y). inr (same.1 k)) (λ (k : value x <F value y). inl (less.1 k))
          (le_cases h)),
    )
  where
    le_cases : value x ≤F value y → (value x ≈ value y) ⊎ (value x <F value y)
    le_cases h = elim (eq-or-lt_of_le h.le) [ inl e ↦ inl (record { eq = e }) | inr l ↦ inr (record { lt = l }) ]
