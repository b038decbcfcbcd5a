-- Where no refusal from 3 to 7 applies, the fit's own is 0 or 8: each maker gives a mapping, or 8 where there is no
-- solution or no inverse. By the cases of `made`. Assumes nothing.
use Rattle.std.proofs.Common.{◌≡◌, ℕ, eqb, ◌⊎◌, List, pos, refl, inl, inr, eq-eqb}
use lib.Ieee.{Float, binary64, of_int}
use Rattle.exact.proofs.Booleans.{either}
use Rattle.arguments.specs.Refusal.{pairs_of, arguments_refusal}
use Rattle.arguments.specs.Store.{count_of, values_of, order_of}
use Rattle.std.specs.Prelude.{Option, Some, None}
use Rattle.mappings.specs.declared.mapping.Kind.{Kind}
use Rattle.mappings.specs.declared.mapping.Mapping.{Mapping}
use Rattle.fit.specs.Affine.{fit_affine_projection, shift, similarity, fit_affine}
use Rattle.fit.specs.Barrel.{fit_barrel}
use Rattle.fit.specs.Build.{made, build}
use Rattle.fit.specs.Fit.{both}
use Rattle.mappings.specs.Mapping.{Fitted, fitted, refused, solved_or8}
use Rattle.exact.specs.Vector.{Vector}
use Rattle.fit.specs.Perspective.{fit_perspective_projection, fit_perspective}
use Rattle.fit.specs.Shepards.{fit_shepards}

-- a mapping, or refusal 8
pub record NoneOr8 (f : Fitted) : Type 0 where
  pub number : (f.refusal ≡ 0) ⊎ (f.refusal ≡ 8)

none : (m : Mapping) → NoneOr8 (fitted m)
none m = record { number = inl refl }

degenerate : NoneOr8 (refused 8)
unfolding refused
degenerate = record { number = inr refl }

solved : (o : Option Mapping) → NoneOr8 (solved_or8 o)
unfolding solved_or8
solved (Some m) = none m
solved None = degenerate

-- ---- the makers
both_8 : (s t : Option Vector) (n : ℕ) (kind : Kind) (order : ℕ) → NoneOr8 (both s t n kind order)
unfolding both
both_8 None t n kind order = degenerate
both_8 (Some x) None n kind order = degenerate
both_8 (Some x) (Some y) n kind order = none _

affine_8 : (args : Vector) (pairs : ℕ) → NoneOr8 (fit_affine args pairs)
unfolding fit_affine shift similarity
affine_8 args pairs = either NoneOr8 (eqb pairs 1) (none _)
    (either NoneOr8 (eqb pairs 2) (solved _) (both_8 _ _ _ _ _))

affine_projection_8 : (args : Vector) → NoneOr8 (fit_affine_projection args)
unfolding fit_affine_projection
affine_projection_8 args = solved _

perspective_8 : (args : Vector) (pairs : ℕ) → NoneOr8 (fit_perspective args pairs)
unfolding fit_perspective
perspective_8 args pairs = solved _

perspective_projection_8 : (args : Vector) (w h : Float) → NoneOr8 (fit_perspective_projection args w h)
unfolding fit_perspective_projection
perspective_projection_8 args w h = solved _

barrel_8 : (args : Vector) (count : ℕ) (w h : Float) (kind : Kind) → NoneOr8 (fit_barrel args count w h kind)
unfolding fit_barrel
barrel_8 args count w h kind = none _

shepards_8 : (args : Vector) (pairs : ℕ) → NoneOr8 (fit_shepards args pairs)
unfolding fit_shepards
shepards_8 args pairs = none _

-- ---- all of them
made_8 : (method : ℕ) (args : Vector) (count pairs : ℕ) (order w h : Float)
    → NoneOr8 (made method args count pairs order w h)
unfolding made
made_8 method args count pairs order w h =
    either NoneOr8 (eqb method 0) (affine_8 args pairs)
    (either NoneOr8 (eqb method 1) (affine_projection_8 args)
    (either NoneOr8 (eqb method 3) (perspective_8 args pairs)
    (either NoneOr8 (eqb method 4) (perspective_projection_8 args w h)
    (either NoneOr8 (eqb method 5) (both_8 _ _ _ _ _)
    (either NoneOr8 (eqb method 6) (both_8 _ _ _ _ _)
    (either NoneOr8 (eqb method 7) (both_8 _ _ _ _ _)
    (either NoneOr8 (eqb method 11) (barrel_8 args count w h _)
    (either NoneOr8 (eqb method 12) (barrel_8 args count w h _)
    (shepards_8 args pairs)))))))))

pub build_8 : (method : ℕ) (bytes : List ℕ) (width height : ℕ) → arguments_refusal method bytes ≡ 0
    → NoneOr8 (build method bytes width height)
unfolding build
build_8 method bytes width height e =
    rw (eq-eqb (arguments_refusal method bytes) 0 e)
    (made_8 method (values_of bytes) (count_of bytes) (pairs_of method bytes) (order_of bytes) (of_int binary64 (pos width))
    (of_int binary64 (pos height)))
