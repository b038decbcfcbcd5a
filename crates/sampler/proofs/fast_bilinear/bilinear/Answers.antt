-- `sampler::fast_bilinear::bilinear` meets its contract: the cell and the fractions of the point.
use Rattle.taps.specs.declared.interpolation.Interpolation.TheVariants.{Bilinear}
use Rattle.taps.proofs.CellFloor.{cell_law}
use Rattle.taps.proofs.CellLaws.{first_small}
use Rattle.taps.proofs.SignedCode.{asked}
use Rattle.sampler.proofs.fast_bilinear.bilinear.Goals as goal

pub invariant_of-around_cell : goal.invariant_of-around_cell
invariant_of-around_cell c =
    let i = c.below-column in
    let j = c.below-row in
    record {
      near = (
        asked 2147483649 i.result i.type_inv i.ensures (first_small Bilinear c.args.x c.requires.0),
        asked 2147483649 j.result j.type_inv j.ensures (first_small Bilinear c.args.y c.requires.1),
      );
    }

pub around_cell-requires : goal.around_cell-requires
around_cell-requires c = (
  rw c.fraction-tx.ensures (cell_law c.args.x c.requires.0).fraction,
  rw c.fraction-ty.ensures (cell_law c.args.y c.requires.1).fraction,
)
