-- Lengths that are not wrong hold as many answers as points are asked for. Assumes nothing.
use mathlib.Core.Path.{◌≡◌}
use mathlib.Core.Bool.{false, not, ◌||◌}
use Prim.Native.Nat.{ℕ, ◌*◌, ◌/◌, ◌%◌, ◌≤◌}
use native.Mathlib.Omega.{arith}
use lib.Dec.{eqb}
use borrow.Author.Tests.{eqb-true, not-false}
use Rattle.exact.proofs.Booleans.{or_false}
use Rattle.probe_points.specs.Points.{wrong_lengths}

pub lengths_fit : (points out : ℕ) → wrong_lengths points out ≡ false → (points / 16 * 24 ≤ out)
    × (points / 16 * 16 ≤ points)
unfolding wrong_lengths
lengths_fit points out h =
    let t = or_false (not (eqb (points % 16) 0)) (not (eqb (out % 24) 0) || not (eqb (points / 16) (out / 24))) h in
    let u = or_false (not (eqb (out % 24) 0)) (not (eqb (points / 16) (out / 24))) t.1 in
    as_many points out (eqb-true (points / 16) (out / 24) (not-false (eqb (points / 16) (out / 24)) u.1))
  where
    as_many : (points out : ℕ) → points / 16 ≡ out / 24 → (points / 16 * 24 ≤ out) × (points / 16 * 16 ≤ points)
    as_many points out e = (omega arith, omega arith)
