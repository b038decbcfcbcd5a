-- `picture::at::at` meets its contract: where the bits of both indexes are below the sizes, the pixel is the picture's
-- own; elsewhere what is named lies inside, and its samples are the answer.
use mathlib.Core.Path.{sym, ◌∙◌}
use mir.Facts.{to_z-of_z}
use Rattle.picture.specs.At.{at}
use Rattle.picture.proofs.AtLaws.{at_inside}
use Rattle.policies.proofs.NamedLaws.{named_lies}
use Rattle.policies.proofs.IndexCode.{argument, bits_inside}
use Rattle.picture.proofs.at.at.Goals as goal

pub returns-then-j-picture : goal.returns-then-j-picture
returns-then-j-picture c =
    let i = c.bits_of_i64-i in
    let j = c.bits_of_i64-j in
    let hx = c.if-i-picture.true in
    let hy = c.if-j-picture.true in
    let s = c.args.picture.fits.sizes in
    rw (
      bits_inside (argument c.ranges.x i.ensures) hx s.width_most,
      bits_inside (argument c.ranges.y j.ensures) hy s.height_most,
    )
    (c.pixel_at.ensures ∙ sym (at_inside _ _ _ _ _ _ _ _ hx hy))

pub tap_samples-requires : goal.tap_samples-requires
tap_samples-requires c =
    let s = c.args.picture.fits.sizes in
    rw c.named-t.ensures (named_lies _ _ s.wide s.high _ _ _)

pub returns : goal.returns
unfolding at
returns c =
    c.tap_samples.ensures ∙ rw (c.named-t.ensures, to_z-of_z c.ranges.x, to_z-of_z c.ranges.y)
