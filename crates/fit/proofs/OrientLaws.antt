-- How long `orient`'s answer is, whichever case of the definition holds. Assumes nothing.
use Rattle.std.proofs.Common.{◌≡◌, length, refl}
use lib.Ieee.{Float, lt}
use Rattle.exact.specs.Vector.{Vector}
use Rattle.linear.specs.Matrix.{nought}
use Rattle.linear.proofs.InvertLaws.{either}
use Rattle.fit.specs.Orient.{denominator, orient}

pub orient_length : (m : Vector) (x y : Float) → length m ≡ 9 → length (orient m x y) ≡ 9
unfolding orient
orient_length m x y e = either length 9 (lt (denominator m x y) nought) _ _ refl e
