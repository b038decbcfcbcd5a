-- Sizes: a fraction at a scale with one part 0 is a sign and a size, and then |x| ≤ b and, for one sign, |x - y| ≤ e
-- are comparisons of sizes. Provides: `at_same` (equal fractions stand alike at a scale); `Sized`, `sized_signed`,
-- `sized_same`, `sized_more`, `sized_mul`; `size_le`, `le_size`; `abs_sized`, `abs_alike`; `sized_within`,
-- `near_sized`. Assumes nothing.
use mathlib.Core.Path.{◌≡◌, sym, subst}
use mathlib.Core.List.{[], ◌∷◌}
use mathlib.Core.Logic.{⊎_elim}
use mathlib.Core.Bool.{Bool, true, false, cond}
use Prim.Native.Nat.{ℕ, ◌+◌, ◌*◌, ◌≤◌, ◌<◌}
use native.Mathlib.Nat.{mul_comm, mul-pos}
use native.Mathlib.Omega.{arith}
use lib.Ieee.{unlike}
use Rattle.exact.specs.Fraction.{Fraction, over, ◌≤F◌, ◌≈◌, ◌*F◌, abs_f, Within}
use Rattle.exact.specs.Rounds.{signed_f}
use Rattle.exact.proofs.Scale.{At, at_le, le_at, at_ratio, at_change, at_mul, at_more, over_pos, common}
use Rattle.exact.proofs.Near.{at_abs, at_within, le_refl}
use Rattle.exact.proofs.NearProducts.{abs_at, at_abs_le}

-- ---- equal fractions stand alike
pub at_same : {D : ℕ} {x y : Fraction} {p n : ℕ} → x ≈ y → At D x p n → At D y p n
at_same {D} {x} {y} {p} {n} e X =
    at_change (over x) D x.plus x.minus p n (over_pos x) (record { at = sym e.eq }) X.at

-- ---- x is a / D, with the sign s
abbrev pub Sized : ℕ → Fraction → Bool → ℕ → Type 0
Sized D x s a = At D x (cond s 0 a) (cond s a 0)

pub sized_signed : (s : Bool) (a c : ℕ) → 0 < c → Sized c (signed_f s a c) s a
sized_signed true a c C = at_ratio 0 a c C
sized_signed false a c C = at_ratio a 0 c C

pub sized_same : (s : Bool) (a c : ℕ) {x : Fraction} → 0 < c → signed_f s a c ≈ x → Sized c x s a
sized_same s a c C e = at_same e (sized_signed s a c C)

pub sized_more : (s : Bool) (D a k : ℕ) {x : Fraction} → Sized D x s a → Sized (D * k) x s (a * k)
sized_more true D a k {x} X = subst (λ (z : ℕ). At (D * k) x z (a * k)) (none k) (at_more D k X)
  where
    none : (k : ℕ) → 0 * k ≡ 0
    none k = omega arith
sized_more false D a k {x} X = subst (λ (z : ℕ). At (D * k) x (a * k) z) (none k) (at_more D k X)
  where
    none : (k : ℕ) → 0 * k ≡ 0
    none k = omega arith

pub sized_mul : (D E : ℕ) (s : Bool) (a : ℕ) (t : Bool) (b : ℕ) {x y : Fraction} → Sized D x s a → Sized E y t b
    → Sized (D * E) (x *F y) (unlike s t) (a * b)
sized_mul D E s a t b {x} {y} X Y = go s t X Y
  where
    here : (p n q m : ℕ) → p ≡ q → n ≡ m → At (D * E) (x *F y) p n → At (D * E) (x *F y) q m
    here p n q m e h Z = subst (λ (z : ℕ). At (D * E) (x *F y) z m) e (subst (λ (z : ℕ). At (D * E) (x *F y) p z) h Z)

    go : (s t : Bool) → Sized D x s a → Sized E y t b → Sized (D * E) (x *F y) (unlike s t) (a * b)
    go true true X Y = here (0 * 0 + a * b) (0 * b + a * 0) (a * b) 0 (omega arith) (omega arith) (at_mul X Y)
    go true false X Y = here (0 * b + a * 0) (0 * 0 + a * b) 0 (a * b) (omega arith) (omega arith) (at_mul X Y)
    go false true X Y = here (a * 0 + 0 * b) (a * b + 0 * 0) 0 (a * b) (omega arith) (omega arith) (at_mul X Y)
    go false false X Y = here (a * b + 0 * 0) (a * 0 + 0 * b) (a * b) 0 (omega arith) (omega arith) (at_mul X Y)

-- ---- the order of sizes
module _ (D : ℕ) (D0 : 0 < D) {x y : Fraction} {a b : ℕ} (X : At D x a 0) (Y : At D y b 0) where
  pub size_le : a ≤ b → x ≤F y
  size_le h = at_le D D0 X Y (omega arith)

  pub le_size : x ≤F y → a ≤ b
  le_size h = let k = le_at D D0 X Y h in omega arith

-- ---- |x|
pub abs_sized : (D : ℕ) → 0 < D → (s : Bool) (a : ℕ) {x : Fraction} → Sized D x s a → At D (abs_f x) a 0
abs_sized D D0 s a {x} X =
    ⊎_elim (λ (h : At D (abs_f x) (cond s 0 a) (cond s a 0) × (cond s a 0 ≤ cond s 0 a)). plus s h.0 h.1)
    (λ (h : At D (abs_f x) (cond s a 0) (cond s 0 a) × (cond s 0 a ≤ cond s a 0)). minus s h.0 h.1) (at_abs x X)
  where
    zero_here : {x : Fraction} → a ≤ 0 → At D x 0 a → At D x a 0
    zero_here {x} h X = let z : a ≡ 0 = omega arith in
        subst (λ (w : ℕ). At D x w 0) (sym z) (subst (λ (w : ℕ). At D x 0 w) z X)

    plus : (s : Bool) → At D (abs_f x) (cond s 0 a) (cond s a 0) → cond s a 0 ≤ cond s 0 a → At D (abs_f x) a 0
    plus true X h = zero_here h X
    plus false X h = X

    minus : (s : Bool) → At D (abs_f x) (cond s a 0) (cond s 0 a) → cond s 0 a ≤ cond s a 0 → At D (abs_f x) a 0
    minus true X h = X
    minus false X h = zero_here h X

pub abs_alike : (x y : Fraction) → x ≈ y → abs_f x ≤F abs_f y
abs_alike x y e =
    common (x ∷ abs_f y ∷ [])
    (λ D D0 ((_, _, X), ((_, _, A), _)). let k = abs_at D D0 (at_same e X) A (le_refl (abs_f y) (abs_f y)) in
    at_abs_le D D0 X A k.0 k.1)

-- ---- |x - y| ≤ e, for two of one sign
pub sized_within : (D : ℕ) → 0 < D → (s : Bool) {x y e : Fraction} (a b r : ℕ) → Sized D x s a → Sized D y s b
    → At D e r 0 → a ≤ b + r → b ≤ a + r → Within x y e
sized_within D D0 true a b r X Y E h k = at_within D D0 X Y E (omega arith) (omega arith)
sized_within D D0 false a b r X Y E h k = at_within D D0 X Y E (omega arith) (omega arith)

-- x is g / L and y is a / c, the error r / (L c E)
pub near_sized : (s : Bool) (L g c a E r : ℕ) {x y e : Fraction} → 0 < L → 0 < c → 0 < E → Sized L x s g
    → Sized c y s a → At (L * c * E) e r 0
    → g * c * E ≤ a * L * E + r → a * L * E ≤ g * c * E + r → Within x y e
near_sized s L g c a E r {x} {y} L0 C E0 X Y e h k =
    sized_within (L * c * E) (mul-pos (mul-pos L0 C) E0) s (g * c * E) (a * L * E) r
    (sized_more s (L * c) (g * c) E (sized_more s L g c X))
    (sized_more s (L * c) (a * L) E (subst (λ (z : ℕ). Sized z y s (a * L)) (mul_comm c L) (sized_more s c a L Y))) e h
    k
