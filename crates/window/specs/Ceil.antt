-- Ceil: the least whole number that is not below x. Its domain is floor's, the finite x of magnitude at most 2^31;
-- outside it the i64 is i64::MIN. Assumes nothing.
use Rattle.std.specs.Prelude.{◌-◌, ◌*◌, ◌/◌, ◌^◌, true, false, cond, ℤ, pos, negsuc, neg_ℤ, Float}
use Rattle.std.specs.Float.{nan, inf, fin}
use Rattle.std.specs.Float.Ieee.{up, down}
use Rattle.number.specs.Floor.{ceil_div, in_domain}

-- m * up e / down e is the magnitude: it is rounded up where x is positive, and down where x is negative
unfoldable pub ceilℤ : Float → ℤ
ceilℤ nan = pos 0
ceilℤ (inf s) = pos 0
ceilℤ (fin false m e) = pos (ceil_div (m * up e) (down e))
ceilℤ (fin true m e) = neg_ℤ (pos (m * up e / down e))

unfoldable pub ceil_i64 : Float → ℤ
ceil_i64 x = cond (in_domain x) (ceilℤ x) (negsuc (2 ^ 63 - 1))
