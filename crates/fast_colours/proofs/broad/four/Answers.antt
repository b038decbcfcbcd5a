-- `fast_colours::broad::four` meets its contract: the samples after the last tap's are those of the pixel to its right,
-- which lies inside.
use Prim.Native.Nat.{◌+◌}
use native.Mathlib.Omega.{arith}
use Rattle.sampler.proofs.TwoByTwoLaws.{last_room}
use Rattle.fast_colours.proofs.broad.four.Goals as goal

pub widened-requires-3 : goal.widened-requires-3
widened-requires-3 c =
    let p = rw c.requires.channels_value at c.args.picture.fits in
    let h = c.requires.i_bound in
    (omega arith, omega (arith, last_room (c.args.i + 1) c.args.j p (omega (arith, h.0)) h.1))

pub widened-requires-4 : goal.widened-requires-4
widened-requires-4 c =
    let p = rw c.requires.channels_value at c.args.picture.fits in
    let h = c.requires.i_bound in
    (omega arith, omega (arith, last_room (c.args.i + 1) c.args.j p (omega (arith, h.0)) h.1))
