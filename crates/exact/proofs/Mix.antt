-- The mix (1 - t) a + t b of two values: it is a + t (b - a), and it is monotone, so it lies where a and b lie and
-- moves no further than they do; as t moves it moves by at most as much, where a and b are from 0 to 1. Provides:
-- `mix_same`, `mix_line`, `mix_fixed`, `mix_zero`, `mix_one`, `mix_le`, `mix_unit`, `mix_within`, `mix_near`,
-- `mix_slope`. Assumes nothing.
use mathlib.Core.List.{[], ◌∷◌}
use Prim.Native.Nat.{◌*◌}
use native.Mathlib.Nat.{mul-pos}
use native.Mathlib.Omega.{arith}
use Rattle.exact.specs.Fraction.{Fraction, frac, ◌≤F◌, ◌≈◌, ◌+F◌, ◌-F◌, ◌*F◌, abs_f, distance, Within, Unit01}
use Rattle.exact.specs.Surface.{mix_f}
use Rattle.exact.proofs.Scale.{at_eq, at_more, at_add, at_sub, at_mul, common}
use Rattle.exact.proofs.Near.{le_refl, add_same, add_mono, within_same, within_add}
use Rattle.exact.proofs.Products.{
  eq_refl,
  ◌⨟◌,
  back,
  at_zero,
  at_one,
  mul_same,
  sub_same,
  mul_one,
  add_zero,
  add_comm,
  le_same,
  mul_le,
  unit_rest,
}
use Rattle.exact.proofs.NearProducts.{within_like, within_unit, within_mul_by, within_scale}

pub mix_same : {t t' a a' b b' : Fraction} → t ≈ t' → a ≈ a' → b ≈ b' → mix_f t a b ≈ mix_f t' a' b'
unfolding mix_f
mix_same {t} {t'} {a} {a'} {b} {b'} h k l =
    add_same ((frac 1 1 -F t) *F a) ((frac 1 1 -F t') *F a') (t *F b) (t' *F b')
    (mul_same (sub_same (eq_refl (frac 1 1)) h) k) (mul_same h l)

module _ (t a b : Fraction) where
  pub mix_line : mix_f t a b ≈ a +F t *F (b -F a)
  unfolding mix_f
  mix_line =
      common (t ∷ a ∷ b ∷ [])
      (λ D D0 ((_, _, T), ((_, _, A), ((_, _, B), _))).
      at_eq (D * D) (mul-pos D0 D0) (at_add (at_mul (at_sub (at_one D) T) A) (at_mul T B))
      (at_add (at_more D D A) (at_mul T (at_sub B A))) (omega arith))

pub mix_fixed : (t a : Fraction) → mix_f t a a ≈ a
unfolding mix_f
mix_fixed t a =
    common (t ∷ a ∷ [])
    (λ D D0 ((_, _, T), ((_, _, A), _)).
    at_eq (D * D) (mul-pos D0 D0) (at_add (at_mul (at_sub (at_one D) T) A) (at_mul T A)) (at_more D D A) (omega arith))

module _ (a b : Fraction) where
  pub mix_zero : mix_f (frac 0 1) a b ≈ a
  unfolding mix_f
  mix_zero =
      common (a ∷ b ∷ [])
      (λ D D0 ((_, _, A), ((_, _, B), _)).
      at_eq (D * D) (mul-pos D0 D0) (at_add (at_mul (at_sub (at_one D) (at_zero D)) A) (at_mul (at_zero D) B))
      (at_more D D A) (omega arith))

  pub mix_one : mix_f (frac 1 1) a b ≈ b
  unfolding mix_f
  mix_one =
      common (a ∷ b ∷ [])
      (λ D D0 ((_, _, A), ((_, _, B), _)).
      at_eq (D * D) (mul-pos D0 D0) (at_add (at_mul (at_sub (at_one D) (at_one D)) A) (at_mul (at_one D) B))
      (at_more D D B) (omega arith))

-- ---- at one t from 0 to 1
module _ (t : Fraction) (u : Unit01 t) where
  pub mix_le : {a a' b b' : Fraction} → a ≤F a' → b ≤F b' → mix_f t a b ≤F mix_f t a' b'
  unfolding mix_f
  mix_le {a} {a'} {b} {b'} h k =
      add_mono ((frac 1 1 -F t) *F a) ((frac 1 1 -F t) *F a') (t *F b) (t *F b') (mul_le (unit_rest u).0 h)
      (mul_le u.0 k)

  pub mix_unit : {a b : Fraction} → Unit01 a → Unit01 b → Unit01 (mix_f t a b)
  mix_unit {a} {b} h k = (
    le_same (mix_fixed t (frac 0 1)) (eq_refl (mix_f t a b)) (mix_le h.0 k.0),
    le_same (eq_refl (mix_f t a b)) (mix_fixed t (frac 1 1)) (mix_le h.1 k.1),
  )

  module _ (a a' b b' e f : Fraction) where
    -- the errors are mixed as the values are
    pub mix_within : Within a a' e → Within b b' f → Within (mix_f t a b) (mix_f t a' b') (mix_f t e f)
    unfolding mix_f
    mix_within h k =
        within_add ((frac 1 1 -F t) *F a) ((frac 1 1 -F t) *F a') (t *F b) (t *F b') ((frac 1 1 -F t) *F e) (t *F f)
        (within_scale a a' e (frac 1 1 -F t) (unit_rest u).0 h) (within_scale b b' f t u.0 k)

  pub mix_near : (a a' b b' e : Fraction) → Within a a' e → Within b b' e → Within (mix_f t a b) (mix_f t a' b') e
  mix_near a a' b b' e h k =
      within_like (eq_refl (mix_f t a b)) (eq_refl (mix_f t a' b')) (mix_fixed t e) (mix_within a a' b b' e e h k)

-- ---- as t moves
pub mix_slope : (t t' a b d : Fraction) → Unit01 a → Unit01 b → Within t t' d → Within (mix_f t a b) (mix_f t' a b) d
mix_slope t t' a b d h k w =
    within_like (back (mix_line t a b)) (back (mix_line t' a b))
    (add_comm (frac 0 1) (d *F frac 1 1) ⨟ add_zero (d *F frac 1 1) ⨟ mul_one d)
    (within_add a a (t *F (b -F a)) (t' *F (b -F a)) (frac 0 1) (d *F frac 1 1)
    (within_same a a (frac 0 1) (eq_refl a) (le_refl (frac 0 1) (frac 0 1)))
    (within_mul_by t t' d (b -F a) (frac 1 1) gap w))
  where
    gap : abs_f (b -F a) ≤F frac 1 1
    gap = unfold distance in within_unit b a k h
