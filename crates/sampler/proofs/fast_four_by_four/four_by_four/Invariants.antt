-- `sampler::fast_four_by_four::four_by_four` meets its contract. The loop's invariant: the sums are the definition's
-- over the rows passed. Assumes nothing.
use mathlib.Core.Path.{◌≡◌}
use Prim.Native.Nat.{◌*◌, ◌≤◌}
use lib.IntN.{pos}
use Rattle.taps.specs.Taps.{taps}
use Rattle.taps.specs.Weighted.{tap_sums}
use Rattle.taps.specs.Weights.{products}
use Rattle.sampler.specs.FourByFour.{own}
use Rattle.sampler.proofs.fast_four_by_four.four_by_four.Given as goal

abbrev pub invariant-loop-m : goal.invariant-loop-m
invariant-loop-m l =
    let p = l.picture in
    (l.s ≡ tap_sums (taps (own p.bytes.now p.width p.channels) (record { column = pos l.i; row = pos l.j }) 4)
    (products l.wx l.wy) (l.m * 4))
    × (l.m ≤ 4)
