-- The taps of an interpolation: a square of indexes from its cell on, row by row, sixteen at most. A plane names a
-- colour for each index for good, as a picture does under its policy. Specification 9. Assumes nothing.
use Rattle.std.specs.Prelude.{ℕ, ◌*◌, ◌/◌, ◌%◌, List, [], ◌∷◌, ℤ, pos, ◌+ℤ◌}
use Rattle.taps.specs.Cell.{Cell}
use Rattle.taps.specs.declared.interpolation.Interpolation.{Interpolation}
use Rattle.taps.specs.declared.interpolation.Interpolation.TheVariants.{
  Integer,
  Nearest,
  Average,
  Average9,
  Average16,
  Bilinear,
  Catrom,
  Spline,
  Background,
}
use Rattle.picture.specs.declared.colour.Rgba.{Rgba}

abbrev pub Plane : Type 0
Plane = ℤ → ℤ → Rgba

-- how many taps stand side by side
abbrev pub side : Interpolation → ℕ
side Integer = 1
side Nearest = 1
side Average = 2
side Average9 = 3
side Average16 = 4
side Bilinear = 2
side Catrom = 4
side Spline = 4
side Background = 0

abbrev pub count : Interpolation → ℕ
count i = side i * side i

-- f 0 to f 15
abbrev pub sixteen : {A : Type 0} → (ℕ → A) → List A
sixteen f = f 0 ∷ f 1 ∷ f 2 ∷ f 3 ∷ f 4 ∷ f 5 ∷ f 6 ∷ f 7 ∷ f 8 ∷ f 9 ∷ f 10 ∷ f 11 ∷ f 12 ∷ f 13 ∷ f 14 ∷ f 15 ∷ []

-- the tap numbered k of a square of n by n
abbrev pub tap : Plane → Cell → ℕ → ℕ → Rgba
tap plane c n k = plane (c.column +ℤ pos (k % n)) (c.row +ℤ pos (k / n))

unfoldable pub taps : Plane → Cell → ℕ → List Rgba
taps plane c n = sixteen (tap plane c n)
