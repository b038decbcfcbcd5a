-- `Interpolation::cell` meets its contract: the first column and the first row of a point within reach are small.
use Rattle.taps.proofs.CellLaws.{first_small}
use Rattle.taps.proofs.SignedCode.{asked}
use Rattle.taps.proofs.interpolation.Interpolation.cell.Goals as goal

pub invariant_of-result : goal.invariant_of-result
invariant_of-result c =
    let f = c.first in
    let g = c.first-2 in
    record {
      near = (
        asked 2147483649 f.result f.type_inv f.ensures (first_small c.args.self c.args.x c.requires.0),
        asked 2147483649 g.result g.type_inv g.ensures (first_small c.args.self c.args.y c.requires.1),
      );
    }
