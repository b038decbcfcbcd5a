-- `fast_colours::one_by_one::sized` meets its contract: what it is told of its argument.
use lib.Ieee.{binary32}
use borrow.Kind.Array.{e_float}
use Rattle.fast_colours.proofs.InsideSpanLaws.{are_sized}
use Rattle.fast_colours.proofs.one_by_one.sized.Goals as goal

pub returns : goal.returns
returns g c = are_sized (e_float binary32).ty.own_val c.args.w c.well_formed.0.0 c.well_formed.0.1.0.1 c.well_formed.0.1.1
