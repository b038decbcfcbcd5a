-- The weights of a blend, by induction over the axes: one more axis parts each weight w into (1 - t) w and t w, which
-- keeps the weights from 0 to 1, keeps their sum, and doubles their number. Provides: `weights_unit`, `weights_total`,
-- `weights_length`, `weights_two`. Assumes nothing.
use mathlib.Core.Path.{◌≡◌, refl, sym, ap, ◌∙◌}
use mathlib.Core.List.{List, [], ◌∷◌}
use Prim.Native.Nat.{ℕ, suc, ◌*◌, ◌^◌}
use native.Mathlib.Nat.{pow-succ'}
use native.Mathlib.Omega.{arith}
use lib.ListN.{length}
use Rattle.exact.specs.Fraction.{Fraction, frac, ◌≈◌, ◌+F◌, ◌-F◌, ◌*F◌, Unit01}
use Rattle.exact.specs.Surface.{mix_f}
use Rattle.exact.specs.Blend.{parted_f, weights_f, total, Pairwise}
use Rattle.exact.specs.Each.{Each}
use Rattle.exact.proofs.Near.{add_same}
use Rattle.exact.proofs.Products.{
  eq_refl,
  ◌⨟◌,
  back,
  mul_same,
  mul_one,
  add_zero,
  add_assoc,
  unit_one,
  unit_mul,
  unit_rest,
}
use Rattle.exact.proofs.Mix.{mix_fixed}

-- ---- one more axis
parted_unit : (t : Fraction) (ws : List Fraction) → Unit01 t → Each Unit01 ws → Each Unit01 (parted_f t ws)
unfolding parted_f
parted_unit t [] u h = tt
parted_unit t (w ∷ ws) u h = (unit_mul (unit_rest u) h.0, (unit_mul u h.0, parted_unit t ws u h.1))

parted_total : (t : Fraction) (ws : List Fraction) → total (parted_f t ws) ≈ total ws
unfolding parted_f total mix_f
parted_total t [] = eq_refl (frac 0 1)
parted_total t (w ∷ ws) =
    back (add_assoc ((frac 1 1 -F t) *F w) (t *F w) (total (parted_f t ws)))
    ⨟ add_same ((frac 1 1 -F t) *F w +F t *F w) w (total (parted_f t ws)) (total ws) (mix_fixed t w) (parted_total t ws)

parted_length : (t : Fraction) (ws : List Fraction) → length (parted_f t ws) ≡ 2 * length ws
unfolding parted_f
parted_length t [] = refl
parted_length t (w ∷ ws) = ap (λ (n : ℕ). suc (suc n)) (parted_length t ws) ∙ two (length ws)
  where
    two : (n : ℕ) → suc (suc (2 * n)) ≡ 2 * suc n
    two n = omega arith

-- ---- all axes
pub weights_unit : (ts : List Fraction) → Each Unit01 ts → Each Unit01 (weights_f ts)
unfolding weights_f
weights_unit [] h = (unit_one, tt)
weights_unit (t ∷ ts) h = parted_unit t (weights_f ts) h.0 (weights_unit ts h.1)

pub weights_total : (ts : List Fraction) → total (weights_f ts) ≈ frac 1 1
unfolding weights_f total
weights_total [] = add_zero (frac 1 1)
weights_total (t ∷ ts) = parted_total t (weights_f ts) ⨟ weights_total ts

pub weights_length : (ts : List Fraction) → length (weights_f ts) ≡ 2 ^ length ts
unfolding weights_f
weights_length [] = refl
weights_length (t ∷ ts) = parted_length t (weights_f ts) ∙ ap (λ (n : ℕ). 2 * n) (weights_length ts)
    ∙ sym (pow-succ' 2 (length ts))

-- ---- two axes, as a bilinear picture takes them
pub weights_two : (t s : Fraction)
    → Pairwise ◌≈◌ (weights_f (t ∷ s ∷ [])) (((frac 1 1 -F t) *F (frac 1 1 -F s)) ∷ (t *F (frac 1 1 -F s))
    ∷ ((frac 1 1 -F t) *F s) ∷ (t *F s) ∷ [])
unfolding weights_f parted_f
weights_two t s = (
  mul_same (eq_refl (frac 1 1 -F t)) (mul_one (frac 1 1 -F s)),
  (
    mul_same (eq_refl t) (mul_one (frac 1 1 -F s)),
    (mul_same (eq_refl (frac 1 1 -F t)) (mul_one s), (mul_same (eq_refl t) (mul_one s), tt)),
  ),
)
