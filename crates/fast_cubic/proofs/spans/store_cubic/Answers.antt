-- `fast_cubic::spans::store_cubic` meets its contract: where every point of the span has its square inside, none is
-- matte, and each square's colour is the point's.
use Rattle.band.proofs.InnerLaws.{inner_put}
use Rattle.taps.specs.Interpolation.{code_of}
use Rattle.fast_cubic.proofs.FourByFourLaws.{cubic_shown}
use Rattle.fast_cubic.proofs.spans.store_cubic.Goals as goal

pub returns-then-both_kernels : goal.returns-then-both_kernels
returns-then-both_kernels c =
    let p = c.args.picture in
    let K = c.both_kernels.ensures c.if-both_kernels.true in
    let S = c.cells_within.ensures c.if-cells_within.true in
    inner_put (cubic_shown S (code_of c.args.interpolation) K.0 K.1 p.bytes.now p.channels c.requires.cubic) p.channels
    c.args.span.pixel c.args.band.now c.store_four_by_fours.ensures
