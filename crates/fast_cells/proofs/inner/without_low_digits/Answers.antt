-- `fast_cells::inner::without_low_digits` meets its contract: the quotient is the nearest whole number
-- (`closest_quotient`).
use mathlib.Core.Path.{refl, sym, ap}
use Prim.Native.Nat.{ℕ, ◌*◌}
use lib.Dec.{lit≤}
use Rattle.exact.proofs.Closest.{closest_quotient}
use Rattle.fast_cells.proofs.inner.without_low_digits.Goals as goal

pub returns : goal.returns
returns c = ap (λ (q : ℕ). q * 0x20000000) (sym (closest_quotient c.args.m 0x20000000 refl (lit≤ tt)))
