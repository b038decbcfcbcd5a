-- The colour by weights and their sum is the weighted mean. With f32 fractions from 0 to 1 the weights' sum is a number
-- to divide by, and where the taps' alphas are 1 it is the sum of alphas. Provides: `mixed_blend`, `weighed_by`.
-- Assumes nothing.
use mathlib.Core.Path.{◌≡◌, refl, sym, ap, ◌∙◌}
use mathlib.Core.Bool.{Bool, true, false, cond, false≢true}
use mathlib.Core.List.{List, [], ◌∷◌}
use Prim.Native.Nat.{ℕ, ◌+◌}
use lib.Dec.{eqb}
use lib.Ieee.{Float}
use Rattle.exact.specs.Single.{◌⊗◌, ◌⊘◌}
use Rattle.exact.specs.Weighted.{w00, w10, w01, w11, four_sum, weight_sum, Unit32}
use Rattle.exact.proofs.Weighted.{alpha_sum_law}
use Rattle.picture.specs.Colour.{one}
use Rattle.picture.specs.Pixel.{pixel_at}
use Rattle.picture.proofs.PixelCode.{widened_opaque}
use Rattle.picture.specs.declared.colour.Rgba.{Rgba}
use Rattle.taps.specs.Weights.{four_weights, bilinear_weights}
use Rattle.taps.specs.declared.weights.BilinearWeights.{BilinearWeights}
use Rattle.taps.specs.Weighted.{added, weighted, mean}
use Rattle.taps.specs.declared.weighted.Sums.{Sums}
use Rattle.taps.proofs.WeightedOpaque.{summed_four, opaque_four}
use Rattle.sampler.specs.TwoByTwo.{Weighed, cell_colour, two_by_two_sums, over_weight, mixed}

-- the code's weights, and their sum
pub weighed_by : {tx ty : Float} {c : BilinearWeights} → c ≡ bilinear_weights tx ty
    → Weighed tx ty c.w00 c.w10 c.w01 c.w11 c.sum
weighed_by e = record {
  at_00 = ap (λ (z : BilinearWeights). z.w00) e;
  at_10 = ap (λ (z : BilinearWeights). z.w10) e;
  at_01 = ap (λ (z : BilinearWeights). z.w01) e;
  at_11 = ap (λ (z : BilinearWeights). z.w11) e;
  total = ap (λ (z : BilinearWeights). z.sum) e;
}

module _ (bytes : List ℕ) (w n i j : ℕ) (tx ty : Float) where
  abbrev p : Rgba
  p = pixel_at bytes w n i j

  abbrev q : Rgba
  q = pixel_at bytes w n (i + 1) j

  abbrev r : Rgba
  r = pixel_at bytes w n i (j + 1)

  abbrev s : Rgba
  s = pixel_at bytes w n (i + 1) (j + 1)

  abbrev sums : Sums
  sums = two_by_two_sums bytes w n i j (w00 tx ty) (w10 tx ty) (w01 tx ty) (w11 tx ty) (weight_sum tx ty)

  own_mean : mean sums ≡ cell_colour bytes w n i j tx ty
  unfolding cell_colour weighted two_by_two_sums added
  own_mean = sym (ap mean (summed_four (p ∷ q ∷ r ∷ s ∷ []) (four_weights tx ty)))

  -- with every alpha 1, the sum of alphas is that of the weights
  own_over : (n ≡ 4 → ⊥) → Unit32 tx → Unit32 ty → over_weight sums ≡ mean sums
  unfolding two_by_two_sums added pixel_at
  own_over fewer x y =
      let P : p.a ≡ one = widened_opaque bytes n _ fewer in
      let Q : q.a ≡ one = widened_opaque bytes n _ fewer in
      let R : r.a ≡ one = widened_opaque bytes n _ fewer in
      let S : s.a ≡ one = widened_opaque bytes n _ fewer in
      (λ t. record {
        r = four_sum (w00 tx ty ⊗ p.r ⊗ P t) (w10 tx ty ⊗ q.r ⊗ Q t) (w01 tx ty ⊗ r.r ⊗ R t) (w11 tx ty ⊗ s.r ⊗ S t)
            ⊘ sym (alpha_sum_law tx ty x y) t;
        g = four_sum (w00 tx ty ⊗ p.g ⊗ P t) (w10 tx ty ⊗ q.g ⊗ Q t) (w01 tx ty ⊗ r.g ⊗ R t) (w11 tx ty ⊗ s.g ⊗ S t)
            ⊘ sym (alpha_sum_law tx ty x y) t;
        b = four_sum (w00 tx ty ⊗ p.b ⊗ P t) (w10 tx ty ⊗ q.b ⊗ Q t) (w01 tx ty ⊗ r.b ⊗ R t) (w11 tx ty ⊗ s.b ⊗ S t)
            ⊘ sym (alpha_sum_law tx ty x y) t;
        a = four_sum (w00 tx ty ⊗ P t) (w10 tx ty ⊗ Q t) (w01 tx ty ⊗ R t) (w11 tx ty ⊗ S t) ⊘ weight_sum tx ty;
      })
      ∙ sym (opaque_four tx ty x y p q r s P Q R S)

  pub mixed_blend : {a b c d t : Float} → Unit32 tx → Unit32 ty → Weighed tx ty a b c d t
      → mixed bytes w n i j a b c d t ≡ cell_colour bytes w n i j tx ty
  unfolding mixed
  mixed_blend {a} {b} {c} {d} {t} x y W =
      (λ z. mixed bytes w n i j (W.at_00 z) (W.at_10 z) (W.at_01 z) (W.at_11 z) (W.total z))
      ∙ either (eqb n 4) refl ∙ own_mean
    where
      either : (four : Bool) → eqb n 4 ≡ four → cond four (mean sums) (over_weight sums) ≡ mean sums
      either true e = refl
      either false e = own_over (λ m. false≢true (sym e ∙ rw m)) x y
