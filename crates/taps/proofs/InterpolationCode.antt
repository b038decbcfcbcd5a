-- The codes of the interpolations one by one: what holds of the nine, and of every larger number, holds of each. So a
-- code that is none of some names one of the others. Assumes nothing.
use mathlib.Core.Path.{◌≡◌, refl, sym, ap, ◌∙◌}
use Prim.Native.Nat.{ℕ, zero, suc, ◌≤◌}
use native.Mathlib.Omega.{arith}
use Rattle.std.specs.Prelude.{Result, Ok, Err}
use lib.Dec.{ltb, lit≤}
use borrow.Author.Tests.{lt-ltb, le-ltb}
use Rattle.std.specs.Result.{is_err, result_unwrap_or}
use Rattle.refusals.specs.declared.Refusal.{Refusal}
use Rattle.taps.specs.Interpolation.{
  interpolation,
  code_of,
  Decodes,
  integer_code,
  nearest_code,
  average_code,
  average9_code,
  average16_code,
  bilinear_code,
  catrom_code,
  spline_code,
  background_code,
}
use Rattle.taps.specs.declared.interpolation.Interpolation.{Interpolation}
use Rattle.taps.specs.declared.interpolation.Interpolation.TheVariants.{
  Integer,
  Nearest,
  Average,
  Average9,
  Average16,
  Bilinear,
  Catrom,
  Spline,
  Background,
}

pub each_code : (P : ℕ → Type 0) → P integer_code → P nearest_code → P average_code → P average9_code → P average16_code
    → P bilinear_code → P catrom_code → P spline_code → P background_code
    → ((n : ℕ) → P (suc (suc (suc (suc (suc (suc (suc (suc (suc n)))))))))) → (n : ℕ) → P n
each_code P a b c d e f g h i r zero = a
each_code P a b c d e f g h i r (suc zero) = b
each_code P a b c d e f g h i r (suc (suc zero)) = c
each_code P a b c d e f g h i r (suc (suc (suc zero))) = d
each_code P a b c d e f g h i r (suc (suc (suc (suc zero)))) = e
each_code P a b c d e f g h i r (suc (suc (suc (suc (suc zero))))) = f
each_code P a b c d e f g h i r (suc (suc (suc (suc (suc (suc zero)))))) = g
each_code P a b c d e f g h i r (suc (suc (suc (suc (suc (suc (suc zero))))))) = h
each_code P a b c d e f g h i r (suc (suc (suc (suc (suc (suc (suc (suc zero)))))))) = i
each_code P a b c d e f g h i r (suc (suc (suc (suc (suc (suc (suc (suc (suc n))))))))) = r n

pub background_code_law : (code : ℕ) → background_code ≤ code → interpolation code ≡ Background
unfolding interpolation
background_code_law =
    each_code
    (λ n. background_code ≤ n → interpolation n ≡ Background)
    (λ h. absurd (omega arith)) (λ h. absurd (omega arith)) (λ h. absurd (omega arith)) (λ h. absurd (omega arith))
    (λ h. absurd (omega arith)) (λ h. absurd (omega arith)) (λ h. absurd (omega arith)) (λ h. absurd (omega arith))
    (λ h. refl) (λ n h. refl)

-- the code of an interpolation is its own
pub interpolation_code : (i : Interpolation) → interpolation (code_of i) ≡ i
unfolding interpolation
interpolation_code Integer = refl
interpolation_code Nearest = refl
interpolation_code Average = refl
interpolation_code Average9 = refl
interpolation_code Average16 = refl
interpolation_code Bilinear = refl
interpolation_code Catrom = refl
interpolation_code Spline = refl
interpolation_code Background = refl

-- what a code is read as, the last where it is refused
pub decoded : (code : ℕ) (r : Result Interpolation Refusal) → Decodes code r
    → result_unwrap_or r Background ≡ interpolation code
decoded code (Ok i) h = sym (interpolation_code i) ∙ ap interpolation h
decoded code (Err e) h = sym (background_code_law code (omega (arith, h.1)))

-- no code is above the last
code_small : (i : Interpolation) → code_of i ≤ 8
code_small Integer = lit≤ tt
code_small Nearest = lit≤ tt
code_small Average = lit≤ tt
code_small Average9 = lit≤ tt
code_small Average16 = lit≤ tt
code_small Bilinear = lit≤ tt
code_small Catrom = lit≤ tt
code_small Spline = lit≤ tt
code_small Background = lit≤ tt

-- a code is refused where it is above the last
pub refused : (code : ℕ) (r : Result Interpolation Refusal) → Decodes code r → is_err r ≡ ltb 8 code
refused code (Ok i) h = sym (le-ltb 8 code (rw (← h) (code_small i)))
refused code (Err e) h = sym (lt-ltb 8 code h.1)

-- and one that is not is that of the interpolation it is read as
pub code_interpolation : (code : ℕ) → code ≤ 8 → code_of (interpolation code) ≡ code
unfolding interpolation
code_interpolation =
    each_code
    (λ n. n ≤ 8 → code_of (interpolation n) ≡ n)
    (λ h. refl) (λ h. refl) (λ h. refl) (λ h. refl) (λ h. refl) (λ h. refl) (λ h. refl) (λ h. refl) (λ h. refl)
    (λ n h. absurd (omega arith))

-- the two cubic interpolations by their codes
pub catrom_only : (code : ℕ) → interpolation code ≡ Catrom → code ≡ catrom_code
unfolding interpolation
catrom_only =
    each_code
    (λ n. interpolation n ≡ Catrom → n ≡ catrom_code)
    (λ h. cc) (λ h. cc) (λ h. cc) (λ h. cc) (λ h. cc) (λ h. cc) (λ h. refl) (λ h. cc) (λ h. cc) (λ n h. cc)

pub catrom_read : (code : ℕ) → code ≡ catrom_code → interpolation code ≡ Catrom
unfolding interpolation
catrom_read code e = ap interpolation e

pub spline_only : (code : ℕ) → interpolation code ≡ Spline → code ≡ spline_code
unfolding interpolation
spline_only =
    each_code
    (λ n. interpolation n ≡ Spline → n ≡ spline_code)
    (λ h. cc) (λ h. cc) (λ h. cc) (λ h. cc) (λ h. cc) (λ h. cc) (λ h. cc) (λ h. refl) (λ h. cc) (λ n h. cc)

pub spline_read : (code : ℕ) → code ≡ spline_code → interpolation code ≡ Spline
unfolding interpolation
spline_read code e = ap interpolation e
