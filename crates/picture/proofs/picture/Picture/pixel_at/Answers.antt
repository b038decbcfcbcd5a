-- `Picture::pixel_at` meets its contract: the number of a pixel's first sample is the definition's.
use Rattle.picture.specs.Pixel.{pixel_at}
use Rattle.picture.proofs.picture.Picture.pixel_at.Goals as goal

pub returns : goal.returns
unfolding pixel_at
returns c = c.widened.ensures
