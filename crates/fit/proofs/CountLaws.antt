-- No mapping has more than 256 coefficients, so each finds its place, and a polynomial's has at most 42, 21 for u and
-- 21 for v. By the cases of `made`, from how long each maker's list is. Assumes nothing.
use Rattle.std.proofs.Common.{◌≡◌, ℕ, ◌*◌, ◌≤◌, Bool, true, false, cond, eqb, List, ◌++◌, length, take, pos, refl, arith, lit≤, length-append, length-take, eqb-true}
use mathlib.Core.Path.{subst⁻¹}
use lib.Ieee.{Float, binary64, of_int}
use Rattle.arguments.specs.Method.{affine_terms}
use Rattle.arguments.specs.Order.{terms_of}
use Rattle.arguments.specs.Refusal.{pairs_of, arguments_refusal}
use Rattle.arguments.specs.Store.{count_of, values_of, order_of}
use Rattle.std.specs.Prelude.{Option, Some, None, option_map}
use Rattle.mappings.specs.declared.mapping.Kind.{Kind}
use Rattle.fit.specs.Affine.{affine_forward, fit_affine_projection, shift, similarity, fit_affine}
use Rattle.fit.specs.Barrel.{fit_barrel}
use Rattle.fit.specs.Build.{made, build}
use Rattle.fit.specs.Fit.{both}
use Rattle.mappings.specs.Mapping.{
  Fitted,
  poly_kind,
  barrel_kind,
  barrel_inverse_kind,
  shepards_kind,
  mapping,
  fitted,
  refused,
  solved_or8,
}
use Rattle.exact.specs.Vector.{Vector}
use Rattle.exact.proofs.Booleans.{either}
use Rattle.fit.specs.Perspective.{forward, fit_perspective_projection, fit_perspective}
use Rattle.fit.specs.Shepards.{fit_shepards}
use Rattle.fit.proofs.BuildLaws.{few_pairs_law}
use Rattle.fit.proofs.FitLaws.{affine_terms_law, polynomial_terms}
use Rattle.fit.proofs.OrientLaws.{orient_length}
use Rattle.linear.proofs.InvertLaws.{Sized, affine_length, inverse_length}

pub record Room (f : Fitted) : Type 0 where
  pub all : f.mapping.count ≤ 256
  pub poly : f.mapping.kind ≡ poly_kind → f.mapping.count ≤ 42

-- ---- from a list
refused_room : (number : ℕ) → Room (refused number)
unfolding refused mapping
refused_room number = record { all = lit≤ tt; poly = λ e. lit≤ tt }

-- up to 42, whatever the kind
short : (kind : Kind) (order : ℕ) (xs : Vector) → length xs ≤ 42 → Room (fitted (mapping kind order xs))
unfolding mapping
short kind order xs h = record { all = omega arith; poly = λ e. h }

short_8 : (o : Option Vector) (kind : Kind) (make : Vector → Vector)
    → ((x : Vector) → Some x ≡ o → length (make x) ≤ 42) → Room (solved_or8 (option_map (λ x. mapping kind 0 (make x)) o))
unfolding solved_or8
short_8 (Some x) kind make h = short kind 0 (make x) (h x refl)
short_8 None kind make h = refused_room 8

-- twice n
both_room : (s t : Option Vector) (n : ℕ) (kind : Kind) (order : ℕ) → n ≤ 21 → Room (both s t n kind order)
unfolding both
both_room None t n kind order h = refused_room 8
both_room (Some x) None n kind order h = refused_room 8
both_room (Some x) (Some y) n kind order h =
    short kind order (take n x ++ take n y)
    (omega (arith, length-append (take n x) (take n y), length-take n x, length-take n y))

-- ---- the makers

few : (n c : ℕ) → n ≡ c → c ≤ 42 → n ≤ 42
few n c e h = subst⁻¹ (λ (k : ℕ). k ≤ 42) e h

affine_room : (args : Vector) (pairs : ℕ) → Room (fit_affine args pairs)
unfolding fit_affine shift similarity
affine_room args pairs =
    either Room (eqb pairs 1) (short _ _ _ (lit≤ tt))
    (either Room (eqb pairs 2) (short_8 _ _ _ (λ x e. lit≤ tt))
    (both_room _ _ (affine_terms pairs) _ _ (affine_terms_law pairs refl)))

affine_projection_room : (args : Vector) → Room (fit_affine_projection args)
unfolding fit_affine_projection
affine_projection_room args =
    short_8 _ _ _ (λ x e. few _ 6 (subst⁻¹ (Sized 6) e (affine_length (affine_forward args))) (lit≤ tt))

perspective_room : (args : Vector) (pairs : ℕ) → Room (fit_perspective args pairs)
unfolding fit_perspective
perspective_room args pairs = short_8 _ _ _ (λ x e. few _ 9 (orient_length _ _ _ refl) (lit≤ tt))

perspective_projection_room : (args : Vector) (w h : Float) → Room (fit_perspective_projection args w h)
unfolding fit_perspective_projection
perspective_projection_room args w h =
    short_8 _ _ _
    (λ x e. few _ 9 (orient_length _ _ _ (subst⁻¹ (Sized 9) e (inverse_length (forward args)))) (lit≤ tt))

barrel_room : (args : Vector) (count : ℕ) (w h : Float) (kind : Kind) → Room (fit_barrel args count w h kind)
unfolding fit_barrel
barrel_room args count w h kind = short _ _ _ (lit≤ tt)

shepards_room : (args : Vector) (pairs : ℕ) → pairs ≤ 64 → Room (fit_shepards args pairs)
unfolding fit_shepards mapping
shepards_room args pairs h = record { all = omega (arith, length-take (4 * pairs) args); poly = λ e. absurd (seven e) }
  where
    seven : shepards_kind ≡ poly_kind → ⊥
    seven e = cc

-- ---- all of them

made_room : (method : ℕ) (args : Vector) (count pairs : ℕ) (order w h : Float) → pairs ≤ 64
    → Room (made method args count pairs order w h)
unfolding made
made_room method args count pairs order w h small =
    either Room (eqb method 0) (affine_room args pairs)
    (either Room (eqb method 1) (affine_projection_room args)
    (either Room (eqb method 3) (perspective_room args pairs)
    (either Room (eqb method 4) (perspective_projection_room args w h)
    (either Room (eqb method 5) (both_room _ _ 4 _ _ (lit≤ tt))
    (either Room (eqb method 6) (both_room _ _ 4 _ _ (lit≤ tt))
    (either Room (eqb method 7) (both_room _ _ (terms_of order) _ _ (polynomial_terms order refl))
    (either Room (eqb method 11) (barrel_room args count w h barrel_kind)
    (either Room (eqb method 12) (barrel_room args count w h barrel_inverse_kind)
    (shepards_room args pairs small)))))))))

pub build_room : (method : ℕ) (bytes : List ℕ) (width height : ℕ) → Room (build method bytes width height)
unfolding build
build_room method bytes width height = go (eqb (arguments_refusal method bytes) 0) refl
  where
    go : (b : Bool) → eqb (arguments_refusal method bytes) 0 ≡ b
        → Room (cond b (made method (values_of bytes) (count_of bytes) (pairs_of method bytes) (order_of bytes)
        (of_int binary64 (pos width)) (of_int binary64 (pos height))) (refused (arguments_refusal method bytes)))
    go true e = made_room method _ _ _ _ _ _ (few_pairs_law method bytes refl (eqb-true _ _ e) refl)
    go false e = refused_room (arguments_refusal method bytes)
