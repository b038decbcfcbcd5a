-- `picture::size::bad_size` is its definition: each of the three tests is.
use Rattle.picture.specs.Size.{bad_size}
use Rattle.picture.proofs.size.bad_size.Goals as goal

pub returns : goal.returns
unfolding bad_size
returns c = rw (c.bad_channels.ensures, c.bad_side-2.ensures, c.bad_side.ensures)
