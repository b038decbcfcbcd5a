-- `fast_points::pixel::pixel_middle` meets its contract: the machine reads the column back from the bits of an i32,
-- which is the column, since it is small.
use native.Mathlib.Nat.{lt_of_le_of_lt}
use lib.Dec.{lit<}
use lib.IntN.{ℤ}
use lib.Ieee.{binary64, of_int}
use mir.Syntax.{w32}
use mir.ValLaws.{to_z_pos}
use Rattle.exact.specs.Double.{◌⊕◌, half}
use mathlib.Core.Path.{ap}
use Rattle.fast_points.proofs.pixel.pixel_middle.Goals as goal

pub returns : goal.returns
returns c = ap (λ (z : ℤ). of_int binary64 z ⊕ c.args.x ⊕ half)
    (to_z_pos w32 c.args.i (lt_of_le_of_lt c.requires (lit< tt)))
