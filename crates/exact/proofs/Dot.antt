-- Sums of products, by induction over the pairs: factors that are not negative keep the order, and keep distances up to
-- their sum. Provides: `NonNeg`, `each_map`, `dot_none`, `dot_same`, `dot_nonneg`, `dot_le`, `dot_near`. Assumes
-- nothing.
use mathlib.Core.List.{List, [], ◌∷◌}
use Rattle.exact.specs.Fraction.{Fraction, frac, ◌≤F◌, ◌≈◌, ◌+F◌, ◌*F◌, Within}
use Rattle.exact.specs.Blend.{dot_f, total, Pairwise}
use Rattle.exact.specs.Each.{Each}
use Rattle.exact.proofs.Near.{le_refl, add_same, add_mono, within_same, within_add}
use Rattle.exact.proofs.Products.{
  eq_refl,
  back,
  mul_same,
  mul_one,
  add_mul,
  add_zero,
  le_same,
  mul_le,
  nonneg_mul,
}
use Rattle.exact.proofs.NearProducts.{within_like, within_scale}

abbrev pub NonNeg : Fraction → Type 0
NonNeg x = frac 0 1 ≤F x

pub each_map : {P Q : Fraction → Type 0} → ((x : Fraction) → P x → Q x) → (xs : List Fraction) → Each P xs → Each Q xs
each_map f [] h = tt
each_map f (x ∷ xs) h = (f x h.0, each_map f xs h.1)

-- ---- sums of products
pub dot_none : (ws : List Fraction) → dot_f ws [] ≈ frac 0 1
unfolding dot_f
dot_none [] = eq_refl (frac 0 1)
dot_none (w ∷ ws) = eq_refl (frac 0 1)

pub dot_same : (ws ws' vs vs' : List Fraction) → Pairwise ◌≈◌ ws ws' → Pairwise ◌≈◌ vs vs' → dot_f ws vs ≈ dot_f ws' vs'
unfolding dot_f
dot_same [] [] vs vs' h k = eq_refl (frac 0 1)
dot_same [] (w' ∷ ws') vs vs' h k = absurd h
dot_same (w ∷ ws) [] vs vs' h k = absurd h
dot_same (w ∷ ws) (w' ∷ ws') [] [] h k = eq_refl (frac 0 1)
dot_same (w ∷ ws) (w' ∷ ws') [] (v' ∷ vs') h k = absurd k
dot_same (w ∷ ws) (w' ∷ ws') (v ∷ vs) [] h k = absurd k
dot_same (w ∷ ws) (w' ∷ ws') (v ∷ vs) (v' ∷ vs') h k =
    add_same (w *F v) (w' *F v') (dot_f ws vs) (dot_f ws' vs') (mul_same h.0 k.0)
    (dot_same ws ws' vs vs' h.1 k.1)

pub dot_nonneg : (ws vs : List Fraction) → Each NonNeg ws → Each NonNeg vs → frac 0 1 ≤F dot_f ws vs
unfolding dot_f
dot_nonneg [] vs h k = le_refl (frac 0 1) (frac 0 1)
dot_nonneg (w ∷ ws) [] h k = le_refl (frac 0 1) (frac 0 1)
dot_nonneg (w ∷ ws) (v ∷ vs) h k =
    le_same (add_zero (frac 0 1)) (eq_refl (w *F v +F dot_f ws vs))
    (add_mono (frac 0 1) (w *F v) (frac 0 1) (dot_f ws vs) (nonneg_mul h.0 k.0) (dot_nonneg ws vs h.1 k.1))

total_nonneg : (ws : List Fraction) → Each NonNeg ws → frac 0 1 ≤F total ws
unfolding total
total_nonneg [] h = le_refl (frac 0 1) (frac 0 1)
total_nonneg (w ∷ ws) h =
    le_same (add_zero (frac 0 1)) (eq_refl (w +F total ws))
    (add_mono (frac 0 1) w (frac 0 1) (total ws) h.0 (total_nonneg ws h.1))

-- values of at most 1
pub dot_le : (ws vs : List Fraction) → Each NonNeg ws → Each (λ v. v ≤F frac 1 1) vs → dot_f ws vs ≤F total ws
unfolding dot_f total
dot_le [] vs h k = le_refl (frac 0 1) (frac 0 1)
dot_le (w ∷ ws) [] h k = total_nonneg (w ∷ ws) h
dot_le (w ∷ ws) (v ∷ vs) h k =
    add_mono (w *F v) w (dot_f ws vs) (total ws) (le_same (eq_refl (w *F v)) (mul_one w) (mul_le h.0 k.0))
    (dot_le ws vs h.1 k.1)

pub dot_near : (ws vs vs' : List Fraction) (e : Fraction) → frac 0 1 ≤F e → Each NonNeg ws
    → Pairwise (λ v v'. Within v v' e) vs vs'
    → Within (dot_f ws vs) (dot_f ws vs') (total ws *F e)
unfolding dot_f total
dot_near [] vs vs' e e0 h k =
    within_same (frac 0 1) (frac 0 1) (frac 0 1 *F e) (eq_refl (frac 0 1))
    (nonneg_mul (le_refl (frac 0 1) (frac 0 1)) e0)
dot_near (w ∷ ws) [] [] e e0 h k =
    within_same (frac 0 1) (frac 0 1) ((w +F total ws) *F e) (eq_refl (frac 0 1))
    (nonneg_mul (total_nonneg (w ∷ ws) h) e0)
dot_near (w ∷ ws) [] (v' ∷ vs') e e0 h k = absurd k
dot_near (w ∷ ws) (v ∷ vs) [] e e0 h k = absurd k
dot_near (w ∷ ws) (v ∷ vs) (v' ∷ vs') e e0 h k =
    within_like (eq_refl (w *F v +F dot_f ws vs)) (eq_refl (w *F v' +F dot_f ws vs')) (back (add_mul w (total ws) e))
    (within_add (w *F v) (w *F v') (dot_f ws vs) (dot_f ws vs') (w *F e) (total ws *F e)
    (within_scale v v' e w h.0 k.0) (dot_near ws vs vs' e e0 h.1 k.1))
