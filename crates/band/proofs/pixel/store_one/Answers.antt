-- `band::pixel::store_one` meets its contract: one call after the other, and the mark of the source point is its test.
use mathlib.Core.Path.{◌∙◌, subst⁻¹}
use Rattle.point.specs.Point.{Whole}
use Rattle.point.proofs.WholeLaws.{point_whole}
use Rattle.band.proofs.pixel.store_one.Goals as goal

pub shown-requires : goal.shown-requires
shown-requires c = subst⁻¹ Whole c.point-p.ensures (point_whole _ _)

pub returns : goal.returns
returns c = (
  c.matte_pixels_of.ensures ∙ rw c.point-p.ensures,
  c.store_pixel.ensures ∙ rw (c.shown.ensures, c.point-p.ensures),
)
