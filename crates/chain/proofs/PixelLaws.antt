-- One pixel of one warp: under the chain conditions its source point is usable and near the exact one, so it is the
-- picture's colour there, and the sampler's law of an opaque place makes each of its components near the exact
-- picture's new sample. Provides: `channels_kept`; `exact_in`, `exact_alpha` (of the new exact sample); `pixel_near`,
-- `pixel_alpha`. Assumes nothing.
use mathlib.Core.Path.{◌≡◌, refl, sym, ◌∙◌, subst}
use mathlib.Core.Bool.{Bool, false, cond, ◌||◌}
use mathlib.Core.Logic.{◌⊎◌, ⊎_elim}
use Prim.Native.Nat.{ℕ, zero, suc, ◌+◌, ◌≤◌, ◌<◌}
use native.Mathlib.Omega.{arith}
use lib.Dec.{eqb, lit<}
use lib.IntN.{ℤ, nat_abs}
use lib.Ieee.{Float, of_bits, lt}
use borrow.Author.Tests.{ne_eqb}
use Rattle.exact.specs.Fraction.{Fraction, frac, value, ◌≈◌, ◌+F◌, ◌-F◌, Unit01}
use Rattle.exact.specs.Sums.{asked_f}
use Rattle.exact.specs.Double.{◌⊖◌}
use Rattle.exact.specs.Warp.{half, exact_sample}
use Rattle.exact.specs.Weighted.{Sample}
use Rattle.exact.proofs.Near.{within_same}
use Rattle.exact.proofs.Products.{eq_refl, back, ◌⨟◌}
use Rattle.exact.proofs.Samples.{one_value, sample_along}
use Rattle.exact.proofs.Scale.{at_eq, at_add, at_ratio}
use Rattle.exact.proofs.Warp.{exact_unit, exact_opaque}
use Rattle.fit.specs.Build.{build}
use Rattle.mappings.specs.declared.mapping.Mapping.{Mapping}
use Rattle.chain.specs.Conditions as Conditions
use Rattle.chain.specs.ExactPoint.{exact_point}
use Rattle.point.specs.declared.point.Point.{Point}
use Rattle.chain.proofs.PointNear.{asked_near}
use Rattle.picture.specs.Colour.{one}
use Rattle.sampler.specs.Interpolate.{interpolate}
use Rattle.sampler.specs.Opaque.{NearColour}
use Rattle.picture.specs.Pixel.{Picture}
use Rattle.picture.specs.declared.colour.Rgba.{Rgba}
use Rattle.sampler.proofs.AtOpaque.{one_unit}
use Rattle.sampler.proofs.BilinearOpaque.{sampled_near}
use Rattle.window.specs.Window.{x_of, y_of}
use Rattle.band.specs.Band.{point_at, shown, colour_at}
use Rattle.distort.specs.Call.{out_width, out_height, mapped_of, source_of}
use Rattle.distort.specs.Job.{Image, Given, colour_of}
use Rattle.distort.specs.Refusal.{fit_of, window_of, widest, out_channels}
use Rattle.distort.proofs.SampleLaws.{part as component}
use Rattle.distort.specs.Answer.{Answer}
use Rattle.distort.specs.Answer.{Accepted}
use Rattle.chain.specs.Demand.{OpaqueColour}
use Rattle.policies.specs.Named.{transparent_code}
use Rattle.taps.specs.Interpolation.{bilinear_code}
use Rattle.chain.specs.Exact.{ExactImage, plane, source, warped_sample}
use Rattle.chain.proofs.Faithful.{Faithful, error_nonneg}
use Rattle.chain.proofs.PlaneLaws.{opaque_place, exact, plane_units, plane_near, plane_unit, plane_alpha}

-- ---- a warp of the chain keeps the channels
closed : lt one one ≡ false
unfolding lt of_bits
closed = refl

not_below : (x : Float) → x ≡ one → lt x one ≡ false
not_below x e = subst (λ (z : Float). lt z one ≡ false) (sym e) closed

pub channels_kept : (p : Image) (g : Given) → (p.channels ≡ 3) ⊎ (p.channels ≡ 4) → (g.policy ≡ transparent_code → ⊥)
    → OpaqueColour (colour_of g.background) → out_channels p g ≡ p.channels
unfolding widest
channels_kept p g s f o = ⊎_elim (λ (e : p.channels ≡ 3). along 3 e refl) (λ (e : p.channels ≡ 4). along 4 e refl) s
  where
    tests : (eqb g.policy transparent_code || lt (colour_of g.background).a one) ≡ false
    tests = (λ i. ne_eqb g.policy transparent_code f i || not_below (colour_of g.background).a o.alpha i)

    along : (c : ℕ) → p.channels ≡ c → cond (eqb c 4 || false) 4 c ≡ c
        → cond (eqb p.channels 4 || (eqb g.policy transparent_code || lt (colour_of g.background).a one)) 4
        p.channels ≡ p.channels
    along c e h = (λ i. cond (eqb (e i) 4 || tests i) 4 (e i)) ∙ h ∙ sym e

-- ---- n / 524,288 and one more
one_more : (n : ℕ) → frac n 524288 +F frac 1 524288 ≈ frac (n + 1) 524288
one_more n = at_eq 524288 (lit< tt) (at_add (at_ratio n 0 524288 (lit< tt)) (at_ratio 1 0 524288 (lit< tt)))
    (at_ratio (n + 1) 0 524288 (lit< tt)) refl

-- ---- a component past blue is alpha, and 1
one_near : (x : Float) → x ≡ one → (y : Fraction) → y ≈ frac 1 1 → (n : ℕ) → Sample x y (frac n 524288)
one_near x e y h n = subst (λ (z : Float). Sample z y (frac n 524288)) (sym e)
    (record { is = one_unit; near = within_same (value one) y (frac n 524288) (one_value ⨟ back h) (error_nonneg n) })

four : (c : ℕ) → (c ≡ 3) ⊎ (c ≡ 4) → 3 < c → c ≡ 4
four c s h = ⊎_elim (λ (e : c ≡ 3). omega arith) (λ (e : c ≡ 4). e) s

few : (c : ℕ) → (c ≡ 3) ⊎ (c ≡ 4) → (k : ℕ) → suc (suc (suc (suc k))) < c → ⊥
few c s k h = ⊎_elim (λ (e : c ≡ 3). omega arith) (λ (e : c ≡ 4). omega arith) s

-- ---- the pixel at column i and row j, of a job whose window is within its limits
module _ (p : Image) (q : ExactImage) (n : ℕ) (F : Faithful p q n)
    (P : Picture p.bytes p.width p.height p.channels) (g : Given)
    (B : OpaqueColour (colour_of g.background)) (S : g.policy ≡ transparent_code → ⊥) where
  abbrev m : Mapping
  m = (fit_of p g).mapping

  abbrev ox : ℤ
  ox = x_of (window_of p g)

  abbrev oy : ℤ
  oy = y_of (window_of p g)

  abbrev answered : ℕ → Answer
  answered count = Accepted (out_width p g) (out_height p g) ox oy (out_channels p g) count

  module _ (i j : ℕ) (count : ℕ) where
    abbrev there : Fraction × Fraction
    there = exact_point m.kind m.order m.coef (asked_f i ox) (asked_f j oy)

    -- both pictures have one size, and so one fit
    source_is : there ≡ source q g (answered count) i j
    unfolding source fit_of
    source_is = λ d. exact_point
        (build g.method g.arguments (F.near.width d) (F.near.height d)).mapping.kind
        (build g.method g.arguments (F.near.width d) (F.near.height d)).mapping.order
        (build g.method g.arguments (F.near.width d) (F.near.height d)).mapping.coef (asked_f i ox)
        (asked_f j oy)

    sample_is : (k : ℕ) → exact_sample (plane q g k) (there.0 -F frac 1 2) (there.1 -F frac 1 2) ≡ warped_sample q g
        (answered count) i j k
    unfolding warped_sample
    sample_is k = λ d. exact_sample (plane q g k) ((source_is d).0 -F frac 1 2) ((source_is d).1 -F frac 1 2)

    -- the new exact sample
    pub exact_in : (k : ℕ) → k < p.channels → Unit01 (warped_sample q g (answered count) i j k)
    exact_in k h =
        subst Unit01 (sample_is k)
        (exact_unit (plane q g k) (there.0 -F frac 1 2) (there.1 -F frac 1 2)
        (λ (x y : ℤ). plane_unit p q n F P g B S x y k h))

    pub exact_alpha : p.channels ≡ 4 → warped_sample q g (answered count) i j 3 ≈ frac 1 1
    exact_alpha e =
        subst (λ (z : Fraction). z ≈ frac 1 1) (sample_is 3)
        (exact_opaque (plane q g 3) (there.0 -F frac 1 2) (there.1 -F frac 1 2)
        (λ (x y : ℤ). plane_alpha p q n F P g B S x y e))

    -- ---- and the picture's
    module _ (I : g.interpolation ≡ bilinear_code) (hi : i ≤ 4096) (hj : j ≤ 4096) (hx : nat_abs ox ≤ 1048576)
        (hy : nat_abs oy ≤ 1048576)
        (M : Conditions.Meets m.kind m.order m.coef (asked_f i ox) (asked_f j oy)) where
      point : Conditions.Faithful (point_at (mapped_of p g) i j) there
      point = asked_near i j ox oy hi hj hx hy m.kind m.order m.count m.coef M

      abbrev at_point : Point
      at_point = point_at (mapped_of p g) i j

      abbrev it : Rgba
      it = colour_at (source_of p g) (mapped_of p g) i j

      -- the picture's colour there, by an interpolation's code
      abbrev by : ℕ → Rgba
      by code = interpolate p.bytes p.width p.height p.channels g.policy code (colour_of g.background)
          (at_point.u ⊖ half) (at_point.v ⊖ half)

      abbrev NearHere : Rgba → Type 0
      NearHere c = NearColour c (exact p q n F P g B S) (there.0 -F frac 1 2) (there.1 -F frac 1 2) (frac n 524288
          +F frac 1 524288)

      colour_near : NearHere it
      unfolding shown
      colour_near =
          subst (λ (t : Bool). NearHere (cond t (by g.interpolation) (colour_of g.matte))) (sym point.usable)
          (subst (λ (code : ℕ). NearHere (by code)) (sym I)
          (sampled_near p.bytes p.width p.height p.channels g.policy (colour_of g.background)
          (opaque_place p q n F P g B S) (exact p q n F P g B S) (plane_units p q n F P g B S) (frac n 524288)
          (plane_near p q n F P g B S) at_point.u at_point.v there.0 there.1 point.u point.v))

      -- a component in the chain's words
      counted : (k : ℕ) {x : Float}
          → Sample x (exact_sample (plane q g k) (there.0 -F frac 1 2) (there.1 -F frac 1 2)) (frac n 524288
          +F frac 1 524288) → Sample x (warped_sample q g (answered count) i j k) (frac (n + 1) 524288)
      counted k {x} s =
          subst (λ (z : Fraction). Sample x z (frac (n + 1) 524288)) (sample_is k)
          (sample_along (eq_refl (exact_sample (plane q g k) (there.0 -F frac 1 2) (there.1 -F frac 1 2)))
          (one_more n) s)

      pub pixel_alpha : it.a ≡ one
      pixel_alpha = colour_near.alpha

      pub pixel_near : (k : ℕ) → k < p.channels
          → Sample (component it k) (warped_sample q g (answered count) i j k) (frac (n + 1) 524288)
      pixel_near zero h = counted 0 colour_near.red
      pixel_near (suc zero) h = counted 1 colour_near.green
      pixel_near (suc (suc zero)) h = counted 2 colour_near.blue
      pixel_near (suc (suc (suc zero))) h =
          one_near it.a pixel_alpha (warped_sample q g (answered count) i j 3)
          (exact_alpha (four p.channels F.colours h)) (n + 1)
      pixel_near (suc (suc (suc (suc k)))) h = absurd (few p.channels F.colours k h)
