-- The barrel with the coefficients 0, 0, 0, 1 about the centre (2, 2) leaves (0.5, 0.5) where it is: worked out.
-- Assumes nothing.
use mathlib.Core.Path.{◌≡◌, refl}
use mathlib.Core.Bool.{false, true}
use mathlib.Core.List.{[], ◌∷◌}
use lib.IntN.{pos, negsuc}
use lib.Ieee.{Float, fin, add, sub, mul, div, sum, round, of_bits, le}
use Rattle.number.specs.Magnitude.{abs, within}
use Rattle.number.specs.Root.{root, root_of, nearest_root, whole_root}
use Rattle.exact.specs.Vector.{Vector}
use Rattle.point.specs.Point.{usable}
use Rattle.inverse.specs.Barrel.{barrel_from, barrel}

abbrev zero : Float
zero = fin false 0 (pos 0)

abbrev half : Float
half = fin false 1 (negsuc 0)

abbrev one : Float
one = fin false 1 (pos 0)

abbrev two : Float
two = fin false 1 (pos 1)

abbrev plain : Vector
plain = zero ∷ zero ∷ zero ∷ one ∷ two ∷ two ∷ two ∷ []

pub stays : barrel plain half half ≡ record { u = half; v = half; usable = true }
unfolding add sub mul div sum round of_bits le abs within root root_of nearest_root whole_root usable barrel_from
stays = refl
