-- The blend. Its weights are not negative and add up to 1, so it lies where the corners lie and moves no further than
-- they do. One axis folds into the corners, dot (parted t ws) vs = dot ws (folded t vs), so a blend along n axes is n
-- mixes, one inside the other, and moves by at most the sum of its fractions' moves. Provides: `blend_unit`,
-- `blend_near`, `blend_fold`, `blend_one`, `blend_move`. Assumes nothing.
use mathlib.Core.List.{List, [], ◌∷◌}
use Rattle.exact.specs.Fraction.{Fraction, frac, ◌≤F◌, ◌≈◌, ◌+F◌, ◌-F◌, ◌*F◌, distance, Within, Unit01}
use Rattle.exact.specs.Surface.{mix_f}
use Rattle.exact.specs.Blend.{parted_f, weights_f, dot_f, blend_f, folded_f, apart_f, Pairwise}
use Rattle.exact.specs.Each.{Each}
use Rattle.exact.proofs.Near.{le_refl, add_same, within_same, within_trans}
use Rattle.exact.proofs.Products.{
  eq_refl,
  ◌⨟◌,
  back,
  mul_same,
  mul_comm,
  mul_assoc,
  one_mul,
  mul_zero,
  mul_add,
  add_zero,
  add_assoc,
  le_same,
  unit_zero,
  unit_mul,
  unit_rest,
}
use Rattle.exact.proofs.NearProducts.{within_like, within_nonneg}
use Rattle.exact.proofs.Mix.{mix_unit, mix_slope}
use Rattle.exact.proofs.Weights.{weights_unit, weights_total}
use Rattle.exact.proofs.Dot.{NonNeg, each_map, dot_none, dot_nonneg, dot_le, dot_near}

-- ---- the blend of values from 0 to 1, and of two lists of values
module _ (ts : List Fraction) (u : Each Unit01 ts) where
  weights_nonneg : Each NonNeg (weights_f ts)
  weights_nonneg = each_map (λ x h. h.0) (weights_f ts) (weights_unit ts u)

  pub blend_unit : (vs : List Fraction) → Each Unit01 vs → Unit01 (blend_f ts vs)
  unfolding blend_f
  blend_unit vs h = (
    dot_nonneg (weights_f ts) vs weights_nonneg (each_map (λ x k. k.0) vs h),
    le_same (eq_refl (dot_f (weights_f ts) vs)) (weights_total ts)
        (dot_le (weights_f ts) vs weights_nonneg (each_map (λ x k. k.1) vs h)),
  )

  pub blend_near : (vs vs' : List Fraction) (e : Fraction) → frac 0 1 ≤F e → Pairwise (λ v v'. Within v v' e) vs vs'
      → Within (blend_f ts vs) (blend_f ts vs') e
  unfolding blend_f
  blend_near vs vs' e e0 h =
      within_like (eq_refl (dot_f (weights_f ts) vs)) (eq_refl (dot_f (weights_f ts) vs'))
      (mul_same (weights_total ts) (eq_refl e) ⨟ one_mul e)
      (dot_near (weights_f ts) vs vs' e e0 weights_nonneg h)

-- ---- one axis folds into the values
shift : (s w a : Fraction) → s *F w *F a ≈ w *F (s *F a)
shift s w a = mul_same (mul_comm s w) (eq_refl a) ⨟ mul_assoc w s a

dot_fold : (t : Fraction) (ws vs : List Fraction) → dot_f (parted_f t ws) vs ≈ dot_f ws (folded_f t vs)
unfolding dot_f parted_f folded_f mix_f
dot_fold t [] vs = eq_refl (frac 0 1)
dot_fold t (w ∷ ws) [] = eq_refl (frac 0 1)
dot_fold t (w ∷ ws) (a ∷ []) =
    add_same ((frac 1 1 -F t) *F w *F a) (w *F ((frac 1 1 -F t) *F a)) (frac 0 1) (dot_f ws [])
    (shift (frac 1 1 -F t) w a) (back (dot_none ws))
dot_fold t (w ∷ ws) (a ∷ (b ∷ vs)) =
    let s : Fraction = frac 1 1 -F t in
    back (add_assoc (s *F w *F a) (t *F w *F b) (dot_f (parted_f t ws) vs))
    ⨟ add_same (s *F w *F a +F t *F w *F b) (w *F (s *F a +F t *F b)) (dot_f (parted_f t ws) vs) (dot_f ws (folded_f t vs))
    (add_same (s *F w *F a) (w *F (s *F a)) (t *F w *F b) (w *F (t *F b)) (shift s w a) (shift t w b) ⨟ back
    (mul_add w (s *F a) (t *F b)))
    (dot_fold t ws vs)

pub blend_fold : (t : Fraction) (ts vs : List Fraction) → blend_f (t ∷ ts) vs ≈ blend_f ts (folded_f t vs)
unfolding blend_f weights_f
blend_fold t ts vs = dot_fold t (weights_f ts) vs

pub blend_one : (v : Fraction) → blend_f [] (v ∷ []) ≈ v
unfolding blend_f weights_f dot_f
blend_one v = add_zero (frac 1 1 *F v) ⨟ one_mul v

-- ---- as the fractions move
folded_unit : (t : Fraction) (vs : List Fraction) → Unit01 t → Each Unit01 vs → Each Unit01 (folded_f t vs)
unfolding folded_f
folded_unit t [] u h = tt
folded_unit t (a ∷ []) u h = (unit_mul (unit_rest u) h.0, tt)
folded_unit t (a ∷ (b ∷ vs)) u h = (mix_unit t u h.0 h.1.0, folded_unit t vs u h.1.1)

folded_move : (t u : Fraction) (vs : List Fraction) → Each Unit01 vs
    → Pairwise (λ v v'. Within v v' (distance t u)) (folded_f t vs) (folded_f u vs)
unfolding folded_f
folded_move t u [] h = tt
folded_move t u (a ∷ []) h = (
  within_like (alone t) (alone u) (eq_refl (distance t u))
      (mix_slope t u a (frac 0 1) (distance t u) h.0 unit_zero (le_refl (distance t u) (distance t u))),
  tt,
)
  where
    alone : (s : Fraction) → mix_f s a (frac 0 1) ≈ (frac 1 1 -F s) *F a
    alone s = unfold mix_f in
        (add_same ((frac 1 1 -F s) *F a) ((frac 1 1 -F s) *F a) (s *F frac 0 1) (frac 0 1)
        (eq_refl ((frac 1 1 -F s) *F a)) (mul_zero s) ⨟ add_zero ((frac 1 1 -F s) *F a))
folded_move t u (a ∷ (b ∷ vs)) h = (
  mix_slope t u a b (distance t u) h.0 h.1.0 (le_refl (distance t u) (distance t u)),
  folded_move t u vs h.1.1,
)

pub blend_move : (ts us vs : List Fraction) → Pairwise (λ t u. Unit01 t × Unit01 u) ts us → Each Unit01 vs
    → Within (blend_f ts vs) (blend_f us vs) (apart_f ts us)
unfolding apart_f
blend_move [] [] vs p h =
    within_same (blend_f [] vs) (blend_f [] vs) (frac 0 1) (eq_refl (blend_f [] vs)) (le_refl (frac 0 1) (frac 0 1))
blend_move [] (u ∷ us) vs p h = absurd p
blend_move (t ∷ ts) [] vs p h = absurd p
blend_move (t ∷ ts) (u ∷ us) vs p h =
    within_like (back (blend_fold t ts vs)) (back (blend_fold u us vs)) (eq_refl (distance t u +F apart_f ts us))
    (within_trans (blend_f ts (folded_f t vs)) (blend_f ts (folded_f u vs)) (blend_f us (folded_f u vs)) (distance t u)
    (apart_f ts us)
    (blend_near ts (lefts ts us p.1) (folded_f t vs) (folded_f u vs) (distance t u)
    (within_nonneg t u (distance t u) (le_refl (distance t u) (distance t u))) (folded_move t u vs h))
    (blend_move ts us (folded_f u vs) p.1 (folded_unit u vs p.0.1 h)))
  where
    lefts : (ts us : List Fraction) → Pairwise (λ t u. Unit01 t × Unit01 u) ts us → Each Unit01 ts
    lefts [] [] p = tt
    lefts [] (u ∷ us) p = tt
    lefts (t ∷ ts) [] p = absurd p
    lefts (t ∷ ts) (u ∷ us) p = (p.0.0, lefts ts us p.1)
