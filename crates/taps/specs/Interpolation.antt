-- The interpolations and their codes: the Rust's `PixelInterpolate`. Specification 1.2. Assumes nothing.
use Rattle.std.specs.Prelude.{◌≡◌, ℕ, ◌≤◌, ◌<◌, List, [], ◌∷◌, get_or, Result, MatchResult}
use Rattle.refusals.specs.declared.Refusal.{Refusal}
use Rattle.refusals.specs.declared.Refusal.TheVariants.{Code}
use Rattle.taps.specs.declared.interpolation.Interpolation.{Interpolation}
use Rattle.taps.specs.declared.interpolation.Interpolation.TheVariants.{
  Integer,
  Nearest,
  Average,
  Average9,
  Average16,
  Bilinear,
  Catrom,
  Spline,
  Background,
}

-- codes count from 0 in this order. No call is accepted with another code; one would count as the last.
abbrev pub interpolations : List Interpolation
interpolations = Integer ∷ Nearest ∷ Average ∷ Average9 ∷ Average16 ∷ Bilinear ∷ Catrom ∷ Spline ∷ Background ∷ []

unfoldable pub interpolation : ℕ → Interpolation
interpolation code = get_or interpolations code Background

-- the code of each
abbrev pub code_of : Interpolation → ℕ
code_of Integer = 0
code_of Nearest = 1
code_of Average = 2
code_of Average9 = 3
code_of Average16 = 4
code_of Bilinear = 5
code_of Catrom = 6
code_of Spline = 7
code_of Background = 8

-- what a code is read as: the interpolation that has it, or the refusal of a code where none has
abbrev pub Decodes : ℕ → Result Interpolation Refusal → Type 0
Decodes code r =
    MatchResult r (λ (i : Interpolation). code_of i ≡ code) (λ (e : Refusal). (e ≡ Code) × (8 < code))

-- ---- the codes by name
abbrev pub integer_code : ℕ
integer_code = 0

abbrev pub nearest_code : ℕ
nearest_code = 1

abbrev pub average_code : ℕ
average_code = 2

abbrev pub average9_code : ℕ
average9_code = 3

abbrev pub average16_code : ℕ
average16_code = 4

abbrev pub bilinear_code : ℕ
bilinear_code = 5

abbrev pub catrom_code : ℕ
catrom_code = 6

abbrev pub spline_code : ℕ
spline_code = 7

abbrev pub background_code : ℕ
background_code = 8

-- the code is that of `Integer` or `Nearest`, which have one tap
abbrev pub Single : ℕ → Type 0
Single code = code < average_code

-- or of `Catrom` or `Spline`, which have sixteen with cubic weights
abbrev pub Cubic : ℕ → Type 0
Cubic code = (catrom_code ≤ code) × (code < background_code)
