-- `fast_points::pixel::asked` meets its contract by what its two parts ensure.
use mir.Syntax.{w64}
use mir.ValLaws.{to_z-of_z}
use mathlib.Core.Path.{◌∙◌}
use Rattle.fast_points.proofs.pixel.asked.Goals as goal

pub returns : goal.returns
returns c =
    c.pixel_middle.ensures ∙ rw (c.offset.ensures, to_z-of_z w64 c.args.x c.ranges.x)
