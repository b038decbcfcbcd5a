-- The order of two finite floats: at most is not above, and two that are neither below nor above each other are one
-- float, but for zeros. By the signs, and then by the order of naturals. Provides: `le_flip` (of floats by their data),
-- `le_values` (by their signs and sizes; `lt_values` is in Operands), `sizes_order` (where neither is negative),
-- `not_above` (the same of naturals), `not_apart`. Assumes nothing.
use mathlib.Core.Path.{◌≡◌, refl, sym, ap, ◌∙◌, subst}
use Prim.Native.Nat.{ℕ, ◌+◌, ◌*◌, ◌≤◌, ◌<◌}
use native.Mathlib.Nat.{le_antisymm, add_comm}
use native.Mathlib.Omega.{arith}
use mathlib.Core.Bool.{Bool, true, false, not, ◌&&◌, ◌||◌}
use lib.IntN.{ℤ}
use lib.Dec.{T, leb, ltb, eqb, leb→le, le→leb, ltb→lt, nltb→le, eqb→eq, not_T}
use lib.Ieee.{Float, nan, inf, fin, Format, up, down, below, level, lt, le, fits}
use lib.Ieee.Fits.{eq→eqb, and_i, and_l, and_r}
use lib.Ieee.Exact.{HasValue}
use Rattle.exact.proofs.Value.{unique}
use Rattle.exact.proofs.Operands.{same_test, lt_values}

-- ---- of two finite floats, not above is below or level
le_order : (a b : ℕ) → (ltb a b || (eqb a b && true)) ≡ not (ltb b a)
le_order a b = go (ltb a b) (eqb a b) (ltb b a) (ltb→lt a b) (eqb→eq a b) (ltb→lt b a) (nltb→le a b) (nltb→le b a)
    (λ e. eq→eqb e)
  where
    go : (p q r : Bool) → (T p → a < b) → (T q → a ≡ b) → (T r → b < a) → (T (not p) → b ≤ a) → (T (not r) → a ≤ b)
        → (a ≡ b → T q) → (p || (q && true)) ≡ not r
    go true q true h e g n m d = let x = h tt in let y = g tt in absurd (omega arith)
    go true q false h e g n m d = refl
    go false true true h e g n m d = let x = e tt in let y = g tt in absurd (omega arith)
    go false true false h e g n m d = refl
    go false false true h e g n m d = refl
    go false false false h e g n m d = absurd (d (le_antisymm (m tt) (n tt)))

le_apart : (a b : ℕ) → (eqb a b && eqb a 0) ≡ not (ltb 0 (b + a))
le_apart a b = same_test (eqb a b && eqb a 0) (not (ltb 0 (b + a)))
    (λ t. let x = eqb→eq a b (and_l (eqb a b) (eqb a 0) t) in let y = eqb→eq a 0 (and_r (eqb a b) (eqb a 0) t) in
    not_T (ltb 0 (b + a)) (λ h. let z = ltb→lt 0 (b + a) h in omega arith))
    (λ t. let z = nltb→le 0 (b + a) t in
    and_i (eqb a b) (eqb a 0) (eq→eqb {a = a} {b = b} (omega arith)) (eq→eqb {a = a} {b = 0} (omega arith)))

either : (u : Bool) → (u || not u) ≡ true
either true = refl
either false = refl

eqb_sym : (a b : ℕ) → eqb a b ≡ eqb b a
eqb_sym a b = same_test (eqb a b) (eqb b a) (λ t. eq→eqb (sym (eqb→eq a b t))) (λ t. eq→eqb (sym (eqb→eq b a t)))

le_signs : (s t : Bool) (a b : ℕ) → (below s a t b || level s a t b) ≡ not (below t b s a)
le_signs false false a b = le_order a b
le_signs false true a b = le_apart a b
le_signs true false a b = (λ i. ltb 0 (add_comm a b i) || le_apart a b i) ∙ either (ltb 0 (b + a))
le_signs true true a b = (λ i. ltb b a || (eqb_sym a b i && true)) ∙ le_order b a

pub le_flip : (s t : Bool) (m n : ℕ) (e d : ℤ) → le (fin s m e) (fin t n d) ≡ not (lt (fin t n d) (fin s m e))
unfolding le
le_flip s t m n e d = le_signs s t (m * up e * down d) (n * up d * down e)

-- ---- the same by values a / c and b / c
pub le_values : (x y : Float) (s t : Bool) (a b c : ℕ) → 0 < c → HasValue x s a c → HasValue y t b c
    → le x y ≡ not (below t b s a)
le_values nan y s t a b c C v w = absurd v
le_values (inf u) y s t a b c C v w = absurd v
le_values (fin u m e) nan s t a b c C v w = absurd w
le_values (fin u m e) (inf r) s t a b c C v w = absurd w
le_values (fin u m e) (fin r n d) s t a b c C v w = le_flip u r m n e d
    ∙ ap not (lt_values (fin r n d) (fin u m e) t s b a c C w v)

pub not_above : (a b : ℕ) → not (ltb b a) ≡ leb a b
not_above a b =
    same_test (not (ltb b a)) (leb a b) (λ t. le→leb a b (nltb→le b a t))
    (λ t. not_T (ltb b a) (λ h. let x = leb→le a b t in let y = ltb→lt b a h in omega arith))

pub sizes_order : (x y : Float) (a b c : ℕ) → 0 < c → HasValue x false a c → HasValue y false b c → le x y ≡ leb a b
sizes_order x y a b c C v w = le_values x y false false a b c C v w ∙ not_above a b

-- ---- neither is below the other: then they are one float, but for two zeros
pub not_apart : (f g : Format) (x y : Float) (s t : Bool) (a b c : ℕ) → 0 < c → 0 < a → T (fits f x) → T (fits g y)
    → HasValue x s a c → HasValue y t b c
    → T (not (lt x y)) → T (not (lt y x)) → x ≡ y
not_apart f g x y s t a b c C A p q v w h k =
    go s t v w (subst (λ (u : Bool). T (not u)) (lt_values x y s t a b c C v w) h)
    (subst (λ (u : Bool). T (not u)) (lt_values y x t s b a c C w v) k)
  where
    go : (s t : Bool) → HasValue x s a c → HasValue y t b c → T (not (below s a t b)) → T (not (below t b s a)) → x ≡ y
    go false false v w h k =
        unique f g x y false a c C p q v
        (subst (λ (n : ℕ). HasValue y false n c) (le_antisymm (nltb→le a b h) (nltb→le b a k)) w)
    go false true v w h k = let l = nltb→le 0 (b + a) k in absurd (omega arith)
    go true false v w h k = let l = nltb→le 0 (a + b) h in absurd (omega arith)
    go true true v w h k = unique f g x y true a c C p q v
        (subst (λ (n : ℕ). HasValue y true n c) (le_antisymm (nltb→le a b k) (nltb→le b a h)) w)
