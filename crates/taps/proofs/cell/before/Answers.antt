-- `taps::cell::before` meets its contract: the index is small.
use mathlib.Core.Path.{sym, ap, ◌∙◌, subst}
use Prim.Native.Nat.{ℕ, ◌^◌, ◌≤◌, ◌<◌}
use native.Mathlib.Omega.{arith}
use lib.IntN.{ℤ, pos, ◌-ℤ◌}
use lib.Signed.{mag}
use mir.Syntax.{w64}
use mir.Val.{SFits, of_z, to_z}
use mir.Facts.{to_z-of_z}
use Rattle.taps.proofs.CellLaws.{before_small}
use Rattle.taps.proofs.cell.before.Goals as goal

less : (n : ℕ) → n ≤ 2147483649 → n < 2 ^ 63
less n h = omega arith

fit : (v : ℤ) → SFits w64 v → mag v ≤ 2147483648 → SFits w64 (to_z w64 (of_z w64 v) -ℤ pos 1)
fit v f h = subst (λ (z : ℤ). SFits w64 (z -ℤ pos 1)) (sym (to_z-of_z f))
    (record { sfits = less (mag (v -ℤ pos 1)) (before_small v h) })

pub overflow_sub-result : goal.overflow_sub-result
overflow_sub-result c = fit _ c.ranges.v c.requires

pub returns : goal.returns
returns c = to_z-of_z (fit _ c.ranges.v c.requires) ∙ ap (λ (z : ℤ). z -ℤ pos 1) (to_z-of_z c.ranges.v)
