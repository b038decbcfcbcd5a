-- `number::root::seed` meets its contract: a number above 0 is no NaN, and its pattern is at most the infinity's.
-- Assumes nothing.
use Rattle.std.proofs.Common.{◌≡◌, true, T, sym, subst, lit≤}
use lib.Ieee.{Float, binary64, fits, of_bits, to_bits, is_nan}
use Rattle.number.proofs.RootCases.{above_no_nan, above_bits}
use Rattle.number.proofs.root.seed.Goals as goal

-- what owning an f64 tells: the format holds it
held : (x : Float) → fits binary64 x ≡ true → T (fits binary64 x)
held x e = subst T (sym e) tt

pub returns-then-x : goal.returns-then-x
returns-then-x c = let s = c in record { value = rw c.if-x.true; t = (above_no_nan s.args.x c.if-x.true, above_bits s.args.x (held _ c.well_formed.0.1) c.if-x.true) }

pub returns-else-x : goal.returns-else-x
unfolding of_bits to_bits is_nan
returns-else-x c = record { value = rw c.if-x.false; t = (tt, lit≤ tt) }
