-- `Sampler::tap` meets its contract: both indexes are moved on, and what is named there lies inside.
use mathlib.Core.Path.{◌∙◌}
use Rattle.picture.specs.At.{at}
use Rattle.policies.proofs.NamedLaws.{named_lies}
use Rattle.taps.proofs.SignedCode.{moved_on, near_fits}
use Rattle.taps.proofs.sampler.Sampler.tap.Goals as goal

pub tap_samples-requires : goal.tap_samples-requires
tap_samples-requires c =
    let s = c.args.self.picture.fits.sizes in
    rw c.named-t.ensures (named_lies _ _ s.wide s.high _ _ _)

pub returns : goal.returns
unfolding at
returns c =
    let x = c.moved in
    let y = c.moved-2 in
    let p = c.args.cell in
    c.tap_samples.ensures
    ∙ rw (
      c.named-t.ensures,
      moved_on x.result _ _ x.type_inv (near_fits p.column p.near.0) x.ensures,
      moved_on y.result _ _ y.type_inv (near_fits p.row p.near.1) y.ensures,
    )
