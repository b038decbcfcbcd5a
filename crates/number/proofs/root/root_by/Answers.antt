-- `number::root::root_by` meets its contract: its tests pick the definition's cases (`RootCases.antt`), and the case of
-- a finite number above 0 is `positive`'s. Assumes nothing.
use Rattle.std.proofs.Common.{◌≡◌, true, T, sym, refl, subst}
use lib.Ieee.{Float, binary64, fits}
use Rattle.number.proofs.RootCases.{above_no_nan, above_positive, above_infinity, zero_root, no_root}
use Rattle.number.proofs.root.root_by.Goals as goal

-- what owning an f64 tells: the format holds it
held : (x : Float) → fits binary64 x ≡ true → T (fits binary64 x)
held x e = subst T (sym e) tt

pub float_to_bits-bits : goal.float_to_bits-bits
float_to_bits-bits c = above_no_nan c.args.x c.if-x.true

pub positive-requires : goal.positive-requires
positive-requires c =
    (above_positive c.args.x c.if-x.true c.if-bits-lt9218868437227405312.true, refl, c.if-bits-lt9218868437227405312.true)

pub returns-then-bits-lt9218868437227405312 : goal.returns-then-bits-lt9218868437227405312
returns-then-bits-lt9218868437227405312 c = c.positive.ensures

pub returns-then-x : goal.returns-then-x
returns-then-x c = let s = c in above_infinity s.args.x (held _ c.well_formed.0.1) c.if-x.true c.if-bits-lt9218868437227405312.false

pub returns-then-x-2 : goal.returns-then-x-2
returns-then-x-2 c = zero_root c.args.x c.if-x-2.true

pub returns : goal.returns
returns c = no_root c.args.x c.if-x.false c.if-x-2.false
