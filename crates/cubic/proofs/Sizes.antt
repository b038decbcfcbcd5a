-- Numbers of bounded magnitude: products, sums in order and quotients by a divisor of either sign keep a bound, and
-- rounding to a power of two does not pass it. Provides: `up_to_part` (one component of a loop), `abs_magnitude` (the
-- value of a float's magnitude); of `Bounded`: `mul_bounded`, `add_bounded`, `sum_bounded` (at most sixteen terms);
-- `div_size`. Assumes nothing.
use mathlib.Core.Path.{◌≡◌, refl, ap, ◌∙◌}
use mathlib.Core.Bool.{false}
use Prim.Native.Nat.{ℕ, zero, suc, ◌+◌, ◌-◌, ◌*◌, ◌≤◌, ◌<◌}
use lib.Dec.{T}
use lib.Ieee.{Float, nan, inf, fin, binary32, up, down, of_bits}
use lib.Ieee.Fits.{down_pos}
use lib.Ieee.Scale.{finite}
use Rattle.exact.specs.Fraction.{Fraction, frac, value, ◌≤F◌, ◌<F◌, ◌≈◌, ◌+F◌, ◌*F◌, ◌/F◌, abs_f}
use Rattle.exact.specs.Loop.{up_to, turns}
use Rattle.exact.specs.Single.{◌⊕◌, ◌⊗◌}
use Rattle.exact.proofs.Scale.{at_eq}
use Rattle.exact.proofs.Near.{le_refl, le_trans}
use Rattle.exact.proofs.Products.{mul_le, mul_cancel_le}
use Rattle.exact.proofs.NearProducts.{abs_mul, abs_nonneg}
use Rattle.exact.proofs.Factors.{mul_abs}
use Rattle.exact.proofs.Magnitude.{sized_signed, abs_sized, abs_alike}
use Rattle.exact.proofs.Quotients.{div_mul}
use Rattle.exact.proofs.Operations.{mul_rounds}
use Rattle.exact.proofs.Steps.{close_own}
use Rattle.exact.proofs.Sums.{Step, count_mono, sum_close}
use Rattle.number.specs.Magnitude.{abs}
use Rattle.cubic.specs.Cubic as Cubic
use Rattle.cubic.specs.Bounded.{Bounded}
use Rattle.exact.proofs.Operations.{add_rounds}
use Rattle.exact.proofs.Steps.{abs_add}

-- ---- one component of a loop is a loop of its own
module _ {A B : Type 0} (part : A → B) (f : ℕ → A → A) (g : ℕ → B → B) (same : (k : ℕ) (x : A)
    → part (f k x) ≡ g k (part x)) where
  turns_part : (lo n : ℕ) (x : A) → part (turns f lo n x) ≡ turns g lo n (part x)
  unfolding turns
  turns_part lo zero x = refl
  turns_part lo (suc n) x = same (lo + n) (turns f lo n x) ∙ ap (g (lo + n)) (turns_part lo n x)

  pub up_to_part : (lo hi : ℕ) (x : A) → part (up_to f lo hi x) ≡ up_to g lo hi (part x)
  unfolding up_to
  up_to_part lo hi x = turns_part lo (hi - lo) x

-- ---- the magnitude's value
pub abs_magnitude : (x : Float) → T (finite x) → T (finite (abs x)) × (value (abs x) ≈ abs_f (value x))
unfolding abs
abs_magnitude nan t = absurd t
abs_magnitude (inf s) t = absurd t
abs_magnitude (fin s m e) t = (
  tt,
  at_eq (down e) (down_pos e) (sized_signed false (m * up e) (down e) (down_pos e))
      (abs_sized (down e) (down_pos e) s (m * up e) (sized_signed s (m * up e) (down e) (down_pos e))) refl,
)

-- ---- sums of bounded terms
module _ {h B : Fraction} (step : Step binary32 h B) (h0 : frac 0 1 ≤F h) (A : Fraction) (A0 : frac 0 1 ≤F A)
    (room : frac 16 1 *F (A +F h) ≤F B) (A+h : frac 0 1 ≤F A +F h) where
  zero_number : T (finite Cubic.zero)
  zero_number = unfold of_bits in tt

  zero_value : value Cubic.zero ≈ frac 0 1
  zero_value = unfold of_bits in record { eq = refl }

  pub sum_bounded : (t : ℕ → Float) (n : ℕ) → n ≤ 16 → ((k : ℕ) → k < n → Bounded A (t k))
      → Bounded B (up_to (λ (k : ℕ) (s : Float). s ⊕ t k) 0 n Cubic.zero)
  sum_bounded t n l b =
      let small : frac n 1 *F (A +F h) ≤F B =
      le_trans (frac n 1 *F (A +F h)) (frac 16 1 *F (A +F h)) B (count_mono n 16 (A +F h) l A+h) room in
      let c = sum_close step h0 Cubic.zero zero_number zero_value t (λ (k : ℕ). value (t k)) (frac 0 1) A A0 n
      (λ k q. close_own (t k) A (b k q).number (b k q).size) small in
      record {
        number = c.number;
        size = le_trans (abs_f (value (up_to (λ (k : ℕ) (s : Float). s ⊕ t k) 0 n Cubic.zero))) (frac n 1 *F (A +F h)) B
            c.small small;
      }

-- ---- products
pub mul_bounded : {h B b d : Fraction} {x y : Float} → Step binary32 h B → Bounded b x → Bounded d y → b *F d ≤F B
    → Bounded B (x ⊗ y)
mul_bounded {h} {B} {b} {d} {x} {y} step p q k =
    let c = step.rounds (mul_rounds binary32 x y p.number q.number)
    (le_trans (abs_f (value x *F value y)) (b *F d) B (abs_mul (value x) (value y) b d p.size q.size) k) in
    record { number = c.number; size = c.small }

-- ---- sums of two
pub add_bounded : {h B b d : Fraction} {x y : Float} → Step binary32 h B → Bounded b x → Bounded d y → b +F d ≤F B
    → Bounded B (x ⊕ y)
add_bounded {h} {B} {b} {d} {x} {y} step p q k =
    let c = step.rounds (add_rounds binary32 x y p.number q.number)
    (le_trans (abs_f (value x +F value y)) (b +F d) B (abs_add (value x) (value y) b d p.size q.size) k) in
    record { number = c.number; size = c.small }

-- ---- a quotient by a divisor of at least l, of either sign
pub div_size : (x y b c l : Fraction) → frac 0 1 <F l → l ≤F abs_f y → (y ≈ frac 0 1 → ⊥) → abs_f x ≤F b → b ≤F c *F l
    → abs_f (x /F y) ≤F c
div_size x y b c l l0 ly y0 h k =
    mul_cancel_le l0
    (le_trans (abs_f (x /F y) *F l) (abs_f (x /F y) *F abs_f y) (c *F l)
    (mul_le (abs_nonneg (x /F y) (abs_f (x /F y)) (le_refl (abs_f (x /F y)) (abs_f (x /F y)))) ly)
    (le_trans (abs_f (x /F y) *F abs_f y) (abs_f ((x /F y) *F y)) (c *F l) (mul_abs (x /F y) y)
    (le_trans (abs_f ((x /F y) *F y)) (abs_f x) (c *F l) (abs_alike ((x /F y) *F y) x (div_mul x y y0))
    (le_trans (abs_f x) b (c *F l) h k))))
