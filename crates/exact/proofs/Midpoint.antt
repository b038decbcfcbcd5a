-- Finite floats that are not negative, compared as fractions and as whole numbers of one small unit 1 / w: on which
-- side of x the square of r, or of the midpoint of y and r, lies is told by the numbers of units. All by multiplying
-- out. Provides: `midpoint_under`, `midpoint_over`; `square_le`, `square_ge` (multiples of r's square and of x).
-- Assumes nothing.
use mathlib.Core.Path.{◌≡◌, sym, ap, ap₂, ◌∙◌, subst}
use Prim.Native.Nat.{ℕ, ◌+◌, ◌*◌, ◌≤◌, ◌<◌}
use native.Mathlib.Nat.{
  le_trans,
  le_of_eq,
  lt_of_mul-lt-mul_right,
  le_of_mul-le-mul_right,
  mul-lt-mul_of_pos_right,
  mul-le-mul_right,
  mul-pos,
  mul_assoc,
  mul_comm,
  mul_right_comm,
  add-mul,
}
use native.Mathlib.Omega.{arith}
use mathlib.Core.Bool.{false}
use lib.Ieee.{Float}
use lib.Ieee.Exact.{HasValue}
use lib.Ieee.Positive.{num, den, den_pos, value→cross}

-- ---- the midpoint's square: a / p and b / q are y and r, g / s is x, and c, d, n count their units 1 / w
module _ (a p b q g s c d n w : ℕ) (Y : a * w ≡ c * p) (R : b * w ≡ d * q) (X : g * w ≡ n * s) where
  sum : (a * q + b * p) * w ≡ (c + d) * (p * q)
  sum =
      add-mul (a * q) (b * p) w
      ∙ ap₂ (λ (x y : ℕ). x + y) (mul_right_comm a q w ∙ ap (λ (z : ℕ). z * q) Y ∙ mul_assoc c p q)
      (mul_right_comm b p w ∙ ap (λ (z : ℕ). z * p) R ∙ mul_assoc d q p ∙ ap (λ (z : ℕ). d * z) (mul_comm q p))
      ∙ sym (add-mul c d (p * q))

  spread : (t s w : ℕ) → t * t * s * (w * w * w) ≡ t * w * (t * w) * (s * w)
  spread t s w = omega arith

  collect : (t e s w : ℕ) → t * e * (t * e) * (s * w) ≡ t * t * (e * e * (s * w))
  collect t e s w = omega arith

  square : (a * q + b * p) * (a * q + b * p) * s * (w * w * w) ≡ (c + d) * (c + d) * (p * q * (p * q) * (s * w))
  square =
      spread (a * q + b * p) s w
      ∙ ap (λ (z : ℕ). z * z * (s * w)) sum
      ∙ collect (c + d) (p * q) s w

  spread_x : (g e w : ℕ) → g * (2 * e) * (2 * e) * (w * w * w) ≡ g * w * (4 * (e * e) * (w * w))
  spread_x g e w = omega arith

  collect_x : (n s e w : ℕ) → n * s * (4 * (e * e) * (w * w)) ≡ 4 * n * w * (e * e * (s * w))
  collect_x n s e w = omega arith

  whole : g * (2 * (p * q)) * (2 * (p * q)) * (w * w * w) ≡ 4 * n * w * (p * q * (p * q) * (s * w))
  whole = spread_x g (p * q) w ∙ ap (λ (z : ℕ). z * (4 * (p * q * (p * q)) * (w * w))) X ∙ collect_x n s (p * q) w

  under : 0 < p * q * (p * q) * (s * w) → (c + d) * (c + d) < 4 * n * w
      → (a * q + b * p) * (a * q + b * p) * s < g * (2 * (p * q)) * (2 * (p * q))
  under P h =
      lt_of_mul-lt-mul_right (w * w * w)
      (subst (λ (z : ℕ). z < g * (2 * (p * q)) * (2 * (p * q)) * (w * w * w)) (sym square)
      (subst (λ (z : ℕ). (c + d) * (c + d) * (p * q * (p * q) * (s * w)) < z) (sym whole)
      (mul-lt-mul_of_pos_right h P)))

  over : 0 < p * q * (p * q) * (s * w) → 4 * n * w < (c + d) * (c + d)
      → g * (2 * (p * q)) * (2 * (p * q)) < (a * q + b * p) * (a * q + b * p) * s
  over P h =
      lt_of_mul-lt-mul_right (w * w * w)
      (subst (λ (z : ℕ). z < (a * q + b * p) * (a * q + b * p) * s * (w * w * w)) (sym whole)
      (subst (λ (z : ℕ). 4 * n * w * (p * q * (p * q) * (s * w)) < z) (sym square) (mul-lt-mul_of_pos_right h P)))

-- ---- the same of floats
module _ (y r x : Float) (c d n w : ℕ) (W : 0 < w) (Y : HasValue y false c w) (R : HasValue r false d w)
    (X : HasValue x false n w) where
  room : 0 < den y * den r * (den y * den r) * (den x * w)
  room = mul-pos (mul-pos (mul-pos (den_pos y) (den_pos r)) (mul-pos (den_pos y) (den_pos r))) (mul-pos (den_pos x) W)

  pub midpoint_under : (c + d) * (c + d) < 4 * n * w
      → (num y * den r + num r * den y) * (num y * den r + num r * den y) * den x < num x * (2 * (den y * den r)) *
      (2 * (den y * den r))
  midpoint_under = under (num y) (den y) (num r) (den r) (num x) (den x) c d n w (value→cross y c w Y)
      (value→cross r d w R) (value→cross x n w X) room

  pub midpoint_over : 4 * n * w < (c + d) * (c + d)
      → num x * (2 * (den y * den r)) * (2 * (den y * den r)) < (num y * den r + num r * den y) *
      (num y * den r + num r * den y) * den x
  midpoint_over = over (num y) (den y) (num r) (den r) (num x) (den x) c d n w (value→cross y c w Y)
      (value→cross r d w R) (value→cross x n w X) room

-- ---- the square of r against x, each a multiple
module _ (r x : Float) (d n w i j : ℕ) (R : HasValue r false d w) (X : HasValue x false n w) (W : 0 < w) where
  spread_r : (i b s w : ℕ) → i * (b * b) * s * (w * w) ≡ i * (b * w * (b * w)) * s
  spread_r i b s w = omega arith

  collect_r : (i d q s : ℕ) → i * (d * q * (d * q)) * s ≡ i * (d * d) * (q * q * s)
  collect_r i d q s = omega arith

  spread_s : (j g q w : ℕ) → j * g * (q * q) * (w * w) ≡ j * (g * w) * (q * q) * w
  spread_s j g q w = omega arith

  collect_s : (j n s q w : ℕ) → j * (n * s) * (q * q) * w ≡ j * (n * w) * (q * q * s)
  collect_s j n s q w = omega arith

  of_r : i * (num r * num r) * den x * (w * w) ≡ i * (d * d) * (den r * den r * den x)
  of_r = spread_r i (num r) (den x) w ∙ ap (λ (z : ℕ). i * (z * z) * den x) (value→cross r d w R)
      ∙ collect_r i d (den r) (den x)

  of_x : j * num x * (den r * den r) * (w * w) ≡ j * (n * w) * (den r * den r * den x)
  of_x = spread_s j (num x) (den r) w ∙ ap (λ (z : ℕ). j * z * (den r * den r) * w) (value→cross x n w X)
      ∙ collect_s j n (den x) (den r) w

  pub square_le : i * (d * d) ≤ j * (n * w) → i * (num r * num r) * den x ≤ j * num x * (den r * den r)
  square_le h = le_of_mul-le-mul_right
      (le_trans (le_of_eq of_r) (le_trans (mul-le-mul_right (den r * den r * den x) h) (le_of_eq (sym of_x))))
      (mul-pos W W)

  pub square_ge : j * (n * w) ≤ i * (d * d) → j * num x * (den r * den r) ≤ i * (num r * num r) * den x
  square_ge h = le_of_mul-le-mul_right
      (le_trans (le_of_eq of_x) (le_trans (mul-le-mul_right (den r * den r * den x) h) (le_of_eq (sym of_r))))
      (mul-pos W W)
