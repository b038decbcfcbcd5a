-- `cubic::cubic::weights_by` meets its contract: between a cell's ends the pieces are known, and at its ends the tests
-- choose.
use mathlib.Core.Path.{ap, ◌∙◌}
use Rattle.cubic.specs.Cubic.{cubic_weights}
use Rattle.cubic.proofs.CubicCode.{middle_weights}
use Rattle.cubic.proofs.cubic.weights_by.Goals as goal

pub returns-then-between : goal.returns-then-between
returns-then-between g c =
    let t = c.args.t in
    middle_weights _ t c.distances_of-d.ensures
    c.between.ensures c.if-between.true c.middle.ensures
    ∙ ap (cubic_weights t) c.row.ensures
