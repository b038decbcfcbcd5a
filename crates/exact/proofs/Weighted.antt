-- The f32 blend of four opaque taps against the exact one: the products' sum is within 9 units of the exact blend and
-- the weights' sum within 7 of 1, so the quotient is within 17. It is from 0 to 1 since the products' sum is at most
-- the weights'; and alpha is 1 since both sums of weights are the same float. Provides: `one_is`, `total_one` (the
-- exact weights), `weight_sum_law` (finite, above 0, near 1, above 1e-9), `alpha_sum_law`, `alpha_one`, `colour_near`. Assumes
-- nothing.
use mathlib.Core.Path.{◌≡◌, refl, sym, ap, ◌∙◌, subst}
use mathlib.Core.List.{[], ◌∷◌}
use mathlib.Core.Bool.{false}
use Prim.Native.Nat.{ℕ, ◌*◌}
use native.Mathlib.Nat.{mul-pos}
use native.Mathlib.Omega.{arith}
use lib.IntN.{pos}
use lib.Dec.{T, lit≤}
use lib.Ieee.{Float, fin, of_bits, lt}
use lib.Ieee.Scale.{finite}
use Rattle.exact.specs.Fraction.{Fraction, frac, value, ◌≤F◌, ◌<F◌, ◌≈◌, ◌+F◌, ◌*F◌, Within, Unit01}
use Rattle.exact.specs.Blend.{blend_f}
use Rattle.exact.specs.Single.{◌⊗◌, ◌⊘◌}
use Rattle.exact.specs.Weighted.{
  one,
  least,
  w00,
  w10,
  w01,
  w11,
  e00,
  e10,
  e01,
  e11,
  four_sum,
  weight_sum,
  alpha_sum,
  colour,
  alpha,
  units24,
  Unit32,
  Sample,
  blend_error,
}
use Rattle.exact.proofs.Scale.{at_le, le_at, at_eq, eq_at, at_add, at_sub, at_mul, common}
use Rattle.exact.proofs.Near.{le_trans}
use Rattle.exact.proofs.Products.{eq_refl, back, at_zero, at_one, unit_same, unit_mul, unit_rest}
use Rattle.exact.proofs.NearProducts.{within_like}
use Rattle.exact.proofs.Blend.{blend_unit}
use Rattle.exact.proofs.Taps.{four_taps}
use Rattle.exact.proofs.Samples.{
  halves,
  halves_units,
  sample_own,
  sample_more,
  sample_along,
  sample_rest,
  sample_mul,
}
use Rattle.exact.proofs.Ones.{times_one, over_itself, above_least}
use Rattle.exact.proofs.FourSum.{Taken, taken, Sums, sums_four}
use Rattle.exact.proofs.SumQuotient.{sum_near, sum_least, sum_positive, quotient}

pub one_is : one ≡ fin false 1 (pos 0)
unfolding of_bits
one_is = refl

-- ---- the exact weights: not negative, and 1 in all
pub total_one : (t s : Fraction) → e00 t s +F e10 t s +F e01 t s +F e11 t s ≈ frac 1 1
total_one t s =
    common (t ∷ s ∷ [])
    (λ D D0 ((_, _, T'), ((_, _, S), _)).
    at_eq (D * D) (mul-pos D0 D0)
    (at_add (at_add (at_add (at_mul (at_sub (at_one D) T') (at_sub (at_one D) S)) (at_mul T' (at_sub (at_one D) S)))
    (at_mul (at_sub (at_one D) T') S)) (at_mul T' S)) (at_one (D * D)) (omega arith))

partial : (a b c d : Fraction) → frac 0 1 ≤F c → frac 0 1 ≤F d → a +F b +F c +F d ≈ frac 1 1
    → (a +F b ≤F frac 1 1) × ((a +F b +F c ≤F frac 1 1) × (a +F b +F c +F d ≤F frac 1 1))
partial a b c d hc hd e =
    common (a ∷ b ∷ c ∷ d ∷ [])
    (λ D D0 ((_, _, A), ((_, _, B), ((_, _, C), ((_, _, E), _)))).
    let z = eq_at D D0 (at_add (at_add (at_add A B) C) E) (at_one D) e in
    let x = le_at D D0 (at_zero D) C hc in
    let y = le_at D D0 (at_zero D) E hd in (
      at_le D D0 (at_add A B) (at_one D) (omega arith),
      (
        at_le D D0 (at_add (at_add A B) C) (at_one D) (omega arith),
        at_le D D0 (at_add (at_add (at_add A B) C) E) (at_one D) (omega arith),
      ),
    ))

-- ---- the four weights in f32
module _ (tx ty : Float) (x : Unit32 tx) (y : Unit32 ty) where
  weight00 : Sample (w00 tx ty) (e00 (value tx) (value ty)) (halves 3)
  weight00 = sample_mul 1 1 (unit_rest x.unit) (sample_rest tx x) (sample_rest ty y)

  weight10 : Sample (w10 tx ty) (e10 (value tx) (value ty)) (halves 2)
  weight10 = sample_mul 0 1 x.unit (sample_own x) (sample_rest ty y)

  weight01 : Sample (w01 tx ty) (e01 (value tx) (value ty)) (halves 2)
  weight01 = sample_mul 1 0 (unit_rest x.unit) (sample_rest tx x) (sample_own y)

  weight11 : Sample (w11 tx ty) (e11 (value tx) (value ty)) (halves 1)
  weight11 = sample_mul 0 0 x.unit (sample_own x) (sample_own y)

  -- both sums of weights are the same float
  pub alpha_sum_law : alpha_sum tx ty ≡ weight_sum tx ty
  alpha_sum_law = λ i. four_sum (same weight00 i) (same weight10 i) (same weight01 i) (same weight11 i)
    where
      same : {w : Float} {X e : Fraction} → Sample w X e → w ⊗ one ≡ w
      same {w} s = times_one w s.is.held s.is.number

  -- ---- with the taps' samples
  module _ (a b c d : Float) (pa : Unit32 a) (pb : Unit32 b) (pc : Unit32 c) (pd : Unit32 d) where
    abbrev pub exact : Fraction
    exact = e00 (value tx) (value ty) *F value a +F e10 (value tx) (value ty) *F value b
        +F e01 (value tx) (value ty) *F value c +F e11 (value tx) (value ty) *F value d

    abbrev products : Float
    products = four_sum (w00 tx ty ⊗ a) (w10 tx ty ⊗ b) (w01 tx ty ⊗ c) (w11 tx ty ⊗ d)

    -- each product beside its weight
    take00 : Taken (w00 tx ty ⊗ a) (w00 tx ty) (e00 (value tx) (value ty) *F value a) (e00 (value tx) (value ty)) 3
    take00 = taken (w00 tx ty) a (e00 (value tx) (value ty)) 3 (unit_mul (unit_rest x.unit) (unit_rest y.unit))
        weight00 pa

    take10 : Taken (w10 tx ty ⊗ b) (w10 tx ty) (e10 (value tx) (value ty) *F value b) (e10 (value tx) (value ty)) 2
    take10 = taken (w10 tx ty) b (e10 (value tx) (value ty)) 2 (unit_mul x.unit (unit_rest y.unit)) weight10 pb

    take01 : Taken (w01 tx ty ⊗ c) (w01 tx ty) (e01 (value tx) (value ty) *F value c) (e01 (value tx) (value ty)) 2
    take01 = taken (w01 tx ty) c (e01 (value tx) (value ty)) 2 (unit_mul (unit_rest x.unit) y.unit) weight01 pc

    take11 : Taken (w11 tx ty ⊗ d) (w11 tx ty) (e11 (value tx) (value ty) *F value d) (e11 (value tx) (value ty)) 1
    take11 = taken (w11 tx ty) d (e11 (value tx) (value ty)) 1 (unit_mul x.unit y.unit) weight11 pd

    sums : Sums products (weight_sum tx ty) exact (e00 (value tx) (value ty) +F e10 (value tx) (value ty)
        +F e01 (value tx) (value ty) +F e11 (value tx) (value ty)) 18 14
    sums =
        let h = partial (e00 (value tx) (value ty)) (e10 (value tx) (value ty)) (e01 (value tx) (value ty))
        (e11 (value tx) (value ty)) (unit_mul (unit_rest x.unit) y.unit).0 (unit_mul x.unit y.unit).0
        (total_one (value tx) (value ty)) in
        sums_four take00 take10 take01 take11 h.0 h.1.0 h.1.1

    -- a factor of 1 changes nothing
    colour_is : products ⊘ weight_sum tx ty ≡ colour tx ty a b c d
    colour_is = λ i. four_sum (plain take00 i) (plain take10 i) (plain take01 i) (plain take11 i) ⊘ sym alpha_sum_law i
      where
        plain : {z w : Float} {X W : Fraction} {n : ℕ} → Taken z w X W n → z ≡ z ⊗ one
        plain {z} t = sym (times_one z t.product.is.held t.product.is.number)

    pub colour_near : Sample (colour tx ty a b c d)
        (blend_f (value tx ∷ value ty ∷ []) (value a ∷ value b ∷ value c ∷ value d ∷ [])) blend_error
    colour_near =
        subst (λ (z : Float). Sample z (blend_f (value tx ∷ value ty ∷ []) (value a ∷ value b ∷ value c ∷ value d ∷ []))
        blend_error) colour_is
        (sample_more enough (sample_along (back taps) (eq_refl (halves 34))
        (quotient sums (total_one (value tx) (value ty)) (unit_same taps unit))))
      where
        enough : halves 34 ≤F blend_error
        enough = unfold halves in record { le = lit≤ tt }

        taps : blend_f (value tx ∷ value ty ∷ []) (value a ∷ value b ∷ value c ∷ value d ∷ []) ≈ exact
        taps = four_taps (value tx) (value ty) (value a) (value b) (value c) (value d)

        unit : Unit01 (blend_f (value tx ∷ value ty ∷ []) (value a ∷ value b ∷ value c ∷ value d ∷ []))
        unit = blend_unit (value tx ∷ value ty ∷ []) (x.unit, (y.unit, tt)) (value a ∷ value b ∷ value c ∷ value d
            ∷ []) (pa.unit, (pb.unit, (pc.unit, (pd.unit, tt))))

  -- ---- the sum of the weights
  pub weight_sum_law : T (finite (weight_sum tx ty))
      × ((frac 0 1 <F value (weight_sum tx ty))
      × (Within (value (weight_sum tx ty)) (frac 1 1) (units24 7) × T (lt least (weight_sum tx ty))))
  weight_sum_law =
      let k = sums tx tx tx tx x x x x in
      let o = total_one (value tx) (value ty) in
      let S = weight_sum tx ty in (
        k.weights.number,
        (
          sum_positive k o,
          (
            within_like (eq_refl (value S)) (eq_refl (frac 1 1)) (halves_units 7) (sum_near k o),
            above_least S k.weights.number
                (le_trans (frac 1 2) (frac 33554418 33554432) (value S) (record { le = lit≤ tt }) (sum_least k o)),
          ),
        ),
      )

  pub alpha_one : alpha tx ty ≡ one
  alpha_one =
      let k = sums tx tx tx tx x x x x in
      ap (λ (z : Float). z ⊘ weight_sum tx ty) alpha_sum_law
      ∙ over_itself (weight_sum tx ty) k.weights.number (sum_positive k (total_one (value tx) (value ty)))
      ∙ sym one_is
