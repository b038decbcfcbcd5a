-- `point::usable::point_unless` meets its contract: none is the point of two NaNs. Assumes nothing.
use mathlib.Core.Path.{◌∙◌}
use Rattle.point.proofs.WholeLaws.{by_number}
use Rattle.point.proofs.usable.point_unless.Goals as goal

pub returns : goal.returns
returns c =
    let a = c.args in
    c.point.ensures ∙ rw (c.unless-2.ensures, c.unless.ensures)
    (by_number a.none a.u a.v)
