-- The methods and their codes: each method's code is present, and what is absent states nothing. Assumes nothing.
use mathlib.Core.Path.{◌≡◌, refl, sym, ap, ◌∙◌}
use mathlib.Core.Bool.{Bool, true, false, false≢true}
use Prim.Native.Nat.{ℕ}
use lib.Dec.{eqb}
use lib.Ieee.{Float}
use borrow.Author.Tests.{eqb-true}
use Rattle.arguments.specs.declared.code.Method.{Method}
use Rattle.arguments.specs.declared.code.Method.TheVariants.{
  Affine,
  AffineProjection,
  Perspective,
  PerspectiveProjection,
  BilinearReverse,
  BilinearForward,
  Polynomial,
  Barrel,
  BarrelInverse,
  Shepards,
}
use Rattle.std.specs.Prelude.{Result, Ok, Err, is_ok}
use Rattle.refusals.specs.declared.Refusal.{Refusal}
use Rattle.arguments.specs.Method.{Judged, code_of, present, skip, least_pairs}

pub present_code : (m : Method) → present (code_of m) ≡ true
unfolding present
present_code Affine = refl
present_code AffineProjection = refl
present_code Perspective = refl
present_code PerspectiveProjection = refl
present_code BilinearReverse = refl
present_code BilinearForward = refl
present_code Polynomial = refl
present_code Barrel = refl
present_code BarrelInverse = refl
present_code Shepards = refl

pub present_by : (m : Method) (k : ℕ) → code_of m ≡ k → present k ≡ true
present_by m k e = sym (ap present e) ∙ present_code m

-- a code that is absent is none of those that are here
other : (m k : ℕ) → present k ≡ true → present m ≡ false → eqb m k ≡ false
other m k p a = go (eqb m k) refl
  where
    go : (t : Bool) → eqb m k ≡ t → t ≡ false
    go true e = absurd (false≢true (sym a ∙ ap present (eqb-true m k e) ∙ p))
    go false e = refl

pub nothing_skipped : (m : ℕ) → present m ≡ false → 0 ≡ skip m
unfolding skip present
nothing_skipped m a = simp (other m 7 refl a)

pub no_pairs_asked : (m : ℕ) (order : Float) → present m ≡ false → 0 ≡ least_pairs m order
unfolding least_pairs present
no_pairs_asked m order a = simp (
  other m 0 refl a,
  other m 3 refl a,
  other m 5 refl a,
  other m 6 refl a,
  other m 7 refl a,
  other m 13 refl a,
)

-- whether a code was judged to be a method's is whether it is present
pub judged_present : (code : ℕ) (r : Result Method Refusal) → Judged code r → is_ok r ≡ present code
judged_present code (Ok m) e = sym (present_by m code e)
judged_present code (Err r) e = sym e.1
