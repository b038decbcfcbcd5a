-- `rows::span::store_span` meets its contract: the coordinates that are kept show what the source points show.
use mathlib.Core.Path.{◌∙◌}
use Rattle.band.specs.Band.{pictured}
use Rattle.rows.proofs.SpanLaws.{span_mattes, span_colours}
use Rattle.rows.proofs.span.store_span.Goals as goal

pub returns : goal.returns
returns c =
    let g = c.args in
    let P = c.points.ensures in
    let r = c.store_colours.ensures in
    let s = pictured g.picture g.look in (
      r.0 ∙ span_mattes s g.frame g.span.first g.span.j g.span.n _ _ P,
      r.1 ∙ span_colours s g.frame g.span.first g.span.j g.span.n _ _ P g.out_channels g.span.pixel g.band.now,
    )
