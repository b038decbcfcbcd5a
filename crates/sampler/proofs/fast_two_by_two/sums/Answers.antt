-- `sampler::fast_two_by_two::sums` meets its contract: the four pixels' samples follow each other in two rows.
use native.Mathlib.Omega.{arith}
use Rattle.sampler.specs.TwoByTwo.{two_by_two_sums}
use Rattle.sampler.proofs.TwoByTwoLaws.{last_room, own_pixel, next_pixel, under_pixel, last_pixel}
use Rattle.sampler.proofs.fast_two_by_two.sums.Goals as goal

pub widened-requires : goal.widened-requires
widened-requires c =
    let p = rw (← c.requires.same_channels) at c.args.picture.fits in
    let h = c.requires.i_bound in
    (p.channels_least, omega (arith, last_room _ _ p h.0 h.1))

pub widened-requires-3 : goal.widened-requires-3
widened-requires-3 c =
    let p = rw (← c.requires.same_channels) at c.args.picture.fits in
    let h = c.requires.i_bound in
    (p.channels_least, omega (arith, last_room _ _ p h.0 h.1))

pub widened-requires-4 : goal.widened-requires-4
widened-requires-4 c =
    let p = rw (← c.requires.same_channels) at c.args.picture.fits in
    let h = c.requires.i_bound in
    (p.channels_least, omega (arith, last_room _ _ p h.0 h.1))

pub returns : goal.returns
unfolding two_by_two_sums
returns c =
    let b = c.args.picture.bytes.now in
    let w = c.args.picture.width in
    let i = c.args.i in
    let j = c.args.j in
    let n = c.args.channels in
    rw (
      c.added-s.ensures,
      c.added-2.ensures,
      c.added-upper.ensures,
      c.added.ensures,
      c.nothing.ensures,
      c.widened-4.ensures,
      c.widened-3.ensures,
      c.widened-2.ensures,
      c.widened.ensures,
      own_pixel b w n i j,
      next_pixel b w n i j,
      under_pixel b w n i j,
      last_pixel b w n i j,
    )
