-- `rows::inside::store_single` meets its contract: where every point of the span has its pixel inside, none is matte,
-- and the pixel there is the point's.
use Rattle.band.proofs.InnerLaws.{inner_put}
use Rattle.fast_colours.proofs.InsideSpanLaws.{places_shown}
use Rattle.rows.proofs.inside.store_single.Goals as goal

pub returns-then-places : goal.returns-then-places
returns-then-places g c =
    let p = c.args.picture in
    let C = c.places.ensures.places c.if-places.true in
    inner_put (places_shown g.R.Rule.reads C.0 C.1 p.bytes.now p.channels g.met.R.Rule.single) p.channels c.args.span.pixel
    c.args.band.now c.store_places.ensures
