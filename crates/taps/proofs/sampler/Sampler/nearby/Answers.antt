-- `Sampler::nearby` meets its contract: both indexes are moved on; where their bits are below the sizes, the pixel is
-- the picture's own.
use mathlib.Core.Path.{sym, ◌∙◌}
use Rattle.picture.specs.At.{at}
use Rattle.picture.proofs.AtLaws.{at_inside}
use Rattle.policies.proofs.IndexCode.{moved_bits, bits_inside}
use Rattle.policies.proofs.NamedLaws.{named_lies}
use Rattle.taps.proofs.SignedCode.{moved_on, near_fits}
use Rattle.taps.proofs.sampler.Sampler.nearby.Goals as goal

pub returns-then-n-p : goal.returns-then-n-p
returns-then-n-p c =
    let x = c.moved-x in
    let y = c.moved-y in
    let hx = c.if-m-p.true in
    let hy = c.if-n-p.true in
    let p = c.args.cell in
    let s = c.args.self.picture.fits.sizes in
    rw (
      bits_inside (moved_bits (near_fits p.column p.near.0) x.result _ x.type_inv x.ensures c.bits_of_i64-m.ensures) hx
          s.width_most,
      bits_inside (moved_bits (near_fits p.row p.near.1) y.result _ y.type_inv y.ensures c.bits_of_i64-n.ensures) hy
          s.height_most,
    )
    (c.pixel_at.ensures ∙ sym (at_inside _ _ _ _ _ _ _ _ hx hy))

pub tap_samples-requires : goal.tap_samples-requires
tap_samples-requires c =
    let s = c.args.self.picture.fits.sizes in
    rw c.named.ensures (named_lies _ _ s.wide s.high _ _ _)

pub returns : goal.returns
unfolding at
returns c =
    let x = c.moved-x in
    let y = c.moved-y in
    let p = c.args.cell in
    c.tap_samples.ensures
    ∙ rw (
      c.named.ensures,
      moved_on x.result _ _ x.type_inv (near_fits p.column p.near.0) x.ensures,
      moved_on y.result _ _ y.type_inv (near_fits p.row p.near.1) y.ensures,
    )
