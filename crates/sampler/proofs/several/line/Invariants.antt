-- `sampler::several::line` meets its contract. The loop's invariant: the sums are the definition's over the taps of the
-- row passed. Assumes nothing.
use mathlib.Core.Path.{◌≡◌}
use Prim.Native.Nat.{◌+◌, ◌*◌, ◌≤◌}
use Rattle.exact.specs.Loop.{up_to}
use Rattle.taps.specs.Sampler.{plane_of}
use Rattle.taps.proofs.TapsLaws.{step}
use Rattle.sampler.proofs.several.line.Given as goal

abbrev pub invariant-loop-i : goal.invariant-loop-i
invariant-loop-i l =
    (l.sums ≡ up_to (step (plane_of l.s) (record { column = l.cell.column; row = l.cell.row }) l.n l.weight) (l.j * l.n)
    (l.j * l.n + l.i) l.initial.sums)
    × (l.i ≤ l.n)
