-- `sampler::several::mean_of_taps` meets its contract. The loop's invariant: the sums are the definition's over the
-- rows passed. Assumes nothing.
use mathlib.Core.Path.{◌≡◌}
use Prim.Native.Nat.{◌*◌, ◌≤◌}
use Rattle.taps.specs.Sampler.{plane_of}
use Rattle.taps.specs.Taps.{taps}
use Rattle.taps.specs.Weighted.{tap_sums}
use Rattle.sampler.proofs.several.mean_of_taps.Given as goal

abbrev pub invariant-loop-j : goal.invariant-loop-j
invariant-loop-j l = (l.sums ≡ tap_sums (taps (plane_of l.s)
    (record { column = l.cell.column; row = l.cell.row }) l.n) l.weight (l.j * l.n)) × (l.j ≤ l.n)
