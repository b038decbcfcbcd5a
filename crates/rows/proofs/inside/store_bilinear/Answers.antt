-- `rows::inside::store_bilinear` meets its contract: where every point of the span has its cell inside, none is matte,
-- and each cell's colour is the point's.
use Rattle.band.proofs.InnerLaws.{inner_put}
use Rattle.fast_colours.proofs.InsideSpanLaws.{cells_units, cells_shown}
use Rattle.rows.proofs.inside.store_bilinear.Goals as goal

pub store_broad_cells-requires-clause-fractions : goal.store_broad_cells-requires-clause-fractions
store_broad_cells-requires-clause-fractions c =
    let C = c.cells.ensures.cells c.if-cells.true in
    (cells_units C.0, cells_units C.1)

pub returns-then-ahead : goal.returns-then-ahead
returns-then-ahead c =
    let p = c.args.picture in
    let C = c.cells.ensures.cells c.if-cells.true in
    inner_put (cells_shown p.width p.height C.0 C.1 p.bytes.now p.channels) p.channels c.args.span.pixel
    c.args.band.now c.store_broad_cells.ensures
