-- A sum, a difference and a comparison see only the values of their operands: finite floats of the values a / c and b /
-- c may be exchanged for these two fractions. Provides: `add_values`, `sub_values`, `lt_values`; `same_test` (two tests
-- that pass together). Assumes nothing.
use mathlib.Core.Path.{◌≡◌, refl, sym, ap, ◌∙◌, subst}
use Prim.Native.Nat.{ℕ, ◌+◌, ◌-◌, ◌*◌, ◌<◌}
use native.Mathlib.Nat.{
  mul_comm,
  mul_right_comm,
  mul_assoc,
  mul-sub,
  mul-pos,
  mul-lt-mul_of_pos_right,
  lt_of_mul-lt-mul_right,
}
use native.Mathlib.Omega.{arith}
use mathlib.Core.Bool.{Bool, true, false, not, ◌&&◌, cond, beq}
use lib.Dec.{T, ltb, ltb→lt, lt→ltb}
use lib.Ieee.{Float, nan, inf, fin, Format, up, down, round, sum, add, sub, neg, below, lt}
use lib.Ieee.Fits.{down_pos}
use lib.Ieee.Exact.{HasValue}
use lib.Ieee.Scale.{round_same}

pub same_test : (p q : Bool) → (T p → T q) → (T q → T p) → p ≡ q
same_test true true f g = refl
same_test true false f g = absurd (f tt)
same_test false true f g = absurd (g tt)
same_test false false f g = refl

-- ---- two fractions x / d and y / d, and the same two as a / c and b / c
less : (x y d a b c : ℕ) → 0 < c → x * c ≡ a * d → y * c ≡ b * d → x < y → a < b
less x y d a b c C p q h =
    lt_of_mul-lt-mul_right d
    (subst (λ (z : ℕ). z < b * d) p (subst (λ (z : ℕ). x * c < z) q (mul-lt-mul_of_pos_right h C)))

module _ (x y d a b c : ℕ) (D : 0 < d) (C : 0 < c) (p : x * c ≡ a * d) (q : y * c ≡ b * d) where
  ltb_same : ltb x y ≡ ltb a b
  ltb_same = same_test (ltb x y) (ltb a b) (λ t. lt→ltb a b (less x y d a b c C p q (ltb→lt x y t)))
      (λ t. lt→ltb x y (less a b c x y d D (sym p) (sym q) (ltb→lt a b t)))

  plus : (x + y) * c ≡ (a + b) * d
  plus = omega arith

  minus : (x - y) * c ≡ (a - b) * d
  minus = mul_comm (x - y) c ∙ mul-sub c x y ∙ (λ i. (mul_comm c x ∙ p) i - (mul_comm c y ∙ q) i)
      ∙ (λ i. mul_comm a d i - mul_comm b d i) ∙ sym (mul-sub d a b) ∙ mul_comm d (a - b)

below_same : (s t : Bool) (x y d a b c : ℕ) → 0 < d → 0 < c → x * c ≡ a * d → y * c ≡ b * d
    → below s x t y ≡ below s a t b
below_same false false x y d a b c D C p q = ltb_same x y d a b c D C p q
below_same false true x y d a b c D C p q = refl
below_same true false x y d a b c D C p q =
    ltb_same 0 (x + y) d 0 (a + b) c D C (omega arith) (plus x y d a b c D C p q)
below_same true true x y d a b c D C p q = ltb_same y x d b a c D C q p

sum_same : (f : Format) (s t : Bool) (x y d a b c : ℕ) → 0 < d → 0 < c → x * c ≡ a * d → y * c ≡ b * d
    → sum f s x t y d ≡ sum f s a t b c
unfolding sum
sum_same f s t x y d a b c D C p q =
    λ i. cond (beq s t) (round_same f s (x + y) d (a + b) c D C (plus x y d a b c D C p q) i)
    (cond (ltb_same x y d a b c D C p q i) (round_same f t (y - x) d (b - a) c D C (minus y x d b a c D C q p) i)
    ((ap (λ (u : Bool). round f (s && u) (x - y) d) (ltb_same y x d b a c D C q p)
    ∙ round_same f (s && ltb b a) (x - y) d (a - b) c D C (minus x y d a b c D C p q)) i))

-- ---- of floats
wide : (x de dd a c : ℕ) → x * c ≡ a * de → x * dd * c ≡ a * (de * dd)
wide x de dd a c p = mul_right_comm x dd c ∙ ap (λ (z : ℕ). z * dd) p ∙ mul_assoc a de dd

wide' : (y de dd b c : ℕ) → y * c ≡ b * dd → y * de * c ≡ b * (de * dd)
wide' y de dd b c q = wide y dd de b c q ∙ ap (λ (z : ℕ). b * z) (mul_comm dd de)

pub add_values : (f : Format) (x y : Float) (s t : Bool) (a b c : ℕ) → 0 < c → HasValue x s a c → HasValue y t b c
    → add f x y ≡ sum f s a t b c
unfolding add
add_values f nan y s t a b c C v w = absurd v
add_values f (inf u) y s t a b c C v w = absurd v
add_values f (fin u m e) nan s t a b c C v w = absurd w
add_values f (fin u m e) (inf r) s t a b c C v w = absurd w
add_values f (fin u m e) (fin r n d) s t a b c C v w =
    (λ i. sum f (v.0 i) (m * up e * down d) (w.0 i) (n * up d * down e) (down e * down d))
    ∙ sum_same f s t (m * up e * down d) (n * up d * down e) (down e * down d) a b c
    (mul-pos (down_pos e) (down_pos d)) C
    (wide (m * up e) (down e) (down d) a c v.1) (wide' (n * up d) (down e) (down d) b c w.1)

neg_value : (y : Float) (t : Bool) (b c : ℕ) → HasValue y t b c → HasValue (neg y) (not t) b c
unfolding neg
neg_value nan t b c w = w
neg_value (inf r) t b c w = w
neg_value (fin r n d) t b c w = (ap not w.0, w.1)

pub sub_values : (f : Format) (x y : Float) (s t : Bool) (a b c : ℕ) → 0 < c → HasValue x s a c → HasValue y t b c
    → sub f x y ≡ sum f s a (not t) b c
unfolding sub
sub_values f x y s t a b c C v w = add_values f x (neg y) s (not t) a b c C v (neg_value y t b c w)

pub lt_values : (x y : Float) (s t : Bool) (a b c : ℕ) → 0 < c → HasValue x s a c → HasValue y t b c
    → lt x y ≡ below s a t b
unfolding lt
lt_values nan y s t a b c C v w = absurd v
lt_values (inf u) y s t a b c C v w = absurd v
lt_values (fin u m e) nan s t a b c C v w = absurd w
lt_values (fin u m e) (inf r) s t a b c C v w = absurd w
lt_values (fin u m e) (fin r n d) s t a b c C v w =
    (λ i. below (v.0 i) (m * up e * down d) (w.0 i) (n * up d * down e))
    ∙ below_same s t (m * up e * down d) (n * up d * down e) (down e * down d) a b c
    (mul-pos (down_pos e) (down_pos d)) C
    (wide (m * up e) (down e) (down d) a c v.1) (wide' (n * up d) (down e) (down d) b c w.1)
