-- The NaN, and the zero of whose quotient a program makes it: x differs from itself where it is a NaN and nowhere else.
-- By the cases of a float. Provides: `from_is_nan`, `nan_test`, `number_test` (the test x != x); `zero_bits` (the literal
-- 0), `zero_by_zero`. Assumes nothing.
use mathlib.Core.Path.{◌≡◌, refl, sym, ap, ◌∙◌, subst}
use mathlib.Core.Bool.{Bool, true, false, not, true≢false, false≢true}
use lib.IntN.{pos}
use lib.Dec.{T}
use lib.Ieee.{Float, nan, inf, fin, Format, binary32, binary64, div, ne, is_nan, of_bits}
use lib.Ieee.Compare.{differs_from_itself, nan_differs}

pub from_is_nan : (x : Float) → is_nan x ≡ true → x ≡ nan
unfolding is_nan
from_is_nan nan h = refl
from_is_nan (inf s) h = absurd (false≢true h)
from_is_nan (fin s m e) h = absurd (false≢true h)

nan_is_nan : true ≡ is_nan nan
unfolding is_nan
nan_is_nan = refl

-- a value that is no NaN does not differ from itself
number : (x : Float) → is_nan x ≡ false → ne x x ≡ false
number x h = go (ne x x) (differs_from_itself x)
  where
    go : (b : Bool) → (T b → x ≡ nan) → b ≡ false
    go true f = absurd (true≢false (nan_is_nan ∙ sym (ap is_nan (f tt)) ∙ h))
    go false f = refl

pub nan_test : (x : Float) → ne x x ≡ is_nan x
unfolding is_nan
nan_test nan = nan_differs
nan_test (inf s) = number (inf s) refl
nan_test (fin s m e) = number (fin s m e) refl

pub number_test : (x : Float) → ne x x ≡ false → T (not (is_nan x))
number_test x h = subst (λ (b : Bool). T (not b)) (sym (sym (nan_test x) ∙ h)) tt

-- ---- the literal 0, and the NaN that a program makes of it
pub zero_bits : (f : Format) → of_bits f 0 ≡ fin false 0 (pos 0)
unfolding of_bits
zero_bits binary32 = refl
zero_bits binary64 = refl

pub zero_by_zero : (f : Format) → div f (of_bits f 0) (of_bits f 0) ≡ nan
unfolding div of_bits
zero_by_zero binary32 = refl
zero_by_zero binary64 = refl
