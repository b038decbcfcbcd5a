-- The chain conditions of a warp as one Boolean test, so that at numbers they are shown by `tt`. Provides: `fair`.
-- Assumes nothing.
use mathlib.Core.Path.{◌≡◌, subst⁻¹}
use mathlib.Core.Bool.{Bool, false, ◌&&◌}
use Prim.Native.Nat.{ℕ, ◌<◌}
use lib.Dec.{T}
use lib.IntN.{ℤ}
use Rattle.exact.specs.Fraction.{Fraction, frac, ◌+F◌, ◌*F◌, ◌/F◌, abs_f}
use Rattle.exact.specs.Loop.{up_to}
use Rattle.exact.specs.Power.{pow_f}
use Rattle.exact.specs.Sums.{asked_f}
use Rattle.exact.specs.Vector.{Vector, at}
use Rattle.exact.proofs.Booleans.{both_pass}
use Rattle.mappings.specs.Mapping.{Fitted}
use Rattle.inverse.specs.Polynomial.{of_u, of_v}
use Rattle.chain.specs.Conditions.{TermsMeet, Meets}
use Rattle.chain.specs.ExactPoint.{denominator_f, push_f, of_degree_f, monomials_f, many, exact_point}
use Rattle.distort.specs.Job.{colour_of}
use Rattle.policies.specs.Named.{transparent_code}
use Rattle.taps.specs.Interpolation.{bilinear_code}
use Rattle.distort.specs.Refusal.{fit_of}
use Rattle.distort.specs.Answer.{Answer}
use Rattle.mappings.specs.declared.mapping.Kind.{Kind}
use Rattle.chain.specs.Demand.{OpaqueColour, Chained, Conditions}
use Rattle.chain.specs.Warps.{Warp, width_in, height_in, x_in, y_in}
use Rattle.chain.proofs.Closed.{below, below_every, le_f, closed}
use Rattle.chain.proofs.Closed.{linearly, linear, polynomially, poly}

-- ---- all that is asked at a pixel, by the kind
unfoldable pub small : Fraction → Bool
unfolding le_f abs_f
small x = le_f (abs_f x) (frac 16384 1)

unfoldable pub termwise : Kind → ℕ → Vector → Fraction → Fraction → Bool
unfolding linearly polynomially
termwise Kind.Nothing order m X Y = false
termwise Kind.Affine order m X Y =
    linearly (at m 0) (at m 1) (at m 2) X Y (frac 16384 1) && linearly (at m 3) (at m 4) (at m 5) X Y (frac 16384 1)
termwise Kind.Perspective order m X Y =
    linearly (at m 0) (at m 1) (at m 2) X Y (frac 16384 1)
    && (linearly (at m 3) (at m 4) (at m 5) X Y (frac 16384 1)
    && (linearly (at m 6) (at m 7) (at m 8) X Y (frac 4 1)
    && le_f (frac 1 1024) (denominator_f m X Y)))
termwise Kind.Poly order m X Y =
    polynomially order X Y (of_u m) && polynomially order X Y (of_v m (many order X Y))
termwise Kind.BilinearForward order m X Y = false
termwise Kind.Barrel order m X Y = false
termwise Kind.BarrelInverse order m X Y = false
termwise Kind.Shepards order m X Y = false

terms : (kind : Kind) (order : ℕ) (m : Vector) (X Y : Fraction) → T (termwise kind order m X Y) → TermsMeet kind order m X Y
unfolding termwise TermsMeet
terms Kind.Nothing order m X Y t = absurd t
terms Kind.Affine order m X Y t =
    let a = both_pass (linearly (at m 0) (at m 1) (at m 2) X Y (frac 16384 1)) _ t in
    record { u = linear a.0; v = linear a.1 }
terms Kind.Perspective order m X Y t =
    let a = both_pass (linearly (at m 0) (at m 1) (at m 2) X Y (frac 16384 1)) _ t in
    let b = both_pass (linearly (at m 3) (at m 4) (at m 5) X Y (frac 16384 1)) _ a.1 in
    let c = both_pass (linearly (at m 6) (at m 7) (at m 8) X Y (frac 4 1)) _ b.1 in
    record { u = linear a.0; v = linear b.0; w = linear c.0; least = closed c.1 }
terms Kind.Poly order m X Y t =
    let a = both_pass (polynomially order X Y (of_u m)) _ t in
    (poly order X Y (of_u m) a.0, poly order X Y (of_v m (many order X Y)) a.1)
terms Kind.BilinearForward order m X Y t = absurd t
terms Kind.Barrel order m X Y t = absurd t
terms Kind.BarrelInverse order m X Y t = absurd t
terms Kind.Shepards order m X Y t = absurd t

unfoldable pub pointwise : Kind → ℕ → Vector → Fraction → Fraction → Bool
unfolding termwise small exact_point
pointwise kind order m X Y =
    termwise kind order m X Y && (small (exact_point kind order m X Y).0 && small (exact_point kind order m X Y).1)

meets : (kind : Kind) (order : ℕ) (m : Vector) (X Y : Fraction) → T (pointwise kind order m X Y) → Meets kind order m X Y
unfolding pointwise small
meets kind order m X Y t =
    let a = both_pass (termwise kind order m X Y) _ t in
    let b = both_pass (small (exact_point kind order m X Y).0) _ a.1 in
    record { terms = terms kind order m X Y a.0; u = closed b.0; v = closed b.1 }

-- ---- the same at every pixel of a window; opens all that the test computes with
unfoldable pub everywhere : Kind → ℕ → Vector → ℕ → ℕ → ℤ → ℤ → Bool
unfolding below pointwise monomials_f of_degree_f push_f pow_f up_to ◌+F◌ ◌*F◌ ◌/F◌
everywhere kind order m width height x y =
    below (λ (i : ℕ). below (λ (j : ℕ). pointwise kind order m (asked_f i x) (asked_f j y)) height) width

pixels : (kind : Kind) (order : ℕ) (m : Vector) (width height : ℕ) (x y : ℤ) → T (everywhere kind order m width height x y)
    → (i j : ℕ) → i < width → j < height → Meets kind order m (asked_f i x) (asked_f j y)
unfolding everywhere
pixels kind order m width height x y t i j h k =
    meets kind order m (asked_f i x) (asked_f j y) (below_every (test i) height (below_every tests width t i h) j k)
  where
    test : ℕ → ℕ → Bool
    test i j = pointwise kind order m (asked_f i x) (asked_f j y)

    tests : ℕ → Bool
    tests i = below (test i) height

-- ---- the conditions of a warp, by its fit f
unfoldable pub fairly : Fitted → Answer → Bool
unfolding everywhere
fairly f a =
    everywhere f.mapping.kind f.mapping.order f.mapping.coef (width_in a) (height_in a) (x_in a) (y_in a)

abbrev Pixels : Answer → Fitted → Type 0
Pixels a f =
    (i j : ℕ) → i < width_in a → j < height_in a
    → Meets f.mapping.kind f.mapping.order f.mapping.coef (asked_f i (x_in a)) (asked_f j (y_in a))

pub fair : (w : Warp) (f : Fitted) → fit_of w.chain w.given ≡ f → Chained w.given.method
    → w.given.interpolation ≡ bilinear_code → (w.given.policy ≡ transparent_code → ⊥)
    → OpaqueColour (colour_of w.given.background) → T (fairly f w.answered) → Conditions w
unfolding fairly
fair w f fit method interpolation policy background t = record {
  method = method;
  interpolation = interpolation;
  policy = policy;
  background = background;
  pixels =
      let a = w.answered in
      subst⁻¹ (Pixels a) fit
      (pixels f.mapping.kind f.mapping.order f.mapping.coef (width_in a) (height_in a) (x_in a) (y_in a) t);
}
