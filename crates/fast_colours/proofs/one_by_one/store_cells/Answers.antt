-- `fast_colours::one_by_one::store_cells` meets its contract: at fractions from 0 to 1 the quotients are the weighted
-- mean.
use mathlib.Core.Path.{◌∙◌}
use Rattle.fast_colours.proofs.InsideSpanLaws.{blend_all, mixable}
use Rattle.fast_colours.proofs.one_by_one.store_cells.Goals as goal

pub store_one_by_one-requires-clause-mixable : goal.store_one_by_one-requires-clause-mixable
store_one_by_one-requires-clause-mixable c =
    let p = c.args.picture in
    let F = c.requires.fractions in
    mixable p.bytes.now p.width p.channels c.args.columns.now c.args.rows.now p.height p.fits c.requires.cells_inside F.0
    F.1 c.weigh.ensures

pub returns : goal.returns
returns c =
    let p = c.args.picture in
    let F = c.requires.fractions in
    c.store_one_by_one.ensures
    ∙ blend_all p.bytes.now p.width p.channels c.args.columns.now c.args.rows.now F.0 F.1 c.weigh.ensures
    c.args.span.pixel c.args.band.now
