-- `fast_colours::broad::store_broad` meets its contract: the last pixel puts over what the ones before it left open.
use mathlib.Core.Path.{◌∙◌}
use Rattle.fast_colours.specs.InsideSpan.{mixed_at}
use Rattle.fast_colours.proofs.CoverLaws.{covered_done}
use Rattle.fast_colours.proofs.broad.store_broad.Goals as goal

pub returns : goal.returns
returns c =
    let p = c.args.picture in
    covered_done c.args.m c.args.pixel (mixed_at p.bytes.now p.width 3 c.args.columns.now c.args.rows.now c.args.w.now)
    c.args.band.now c.requires.m_in_bounds c.store_first.ensures
    (c.store_number_pixel.ensures ∙ rw (c.mixed.ensures, c.weights_at.ensures, c.wide.ensures, c.wide-2.ensures))
