-- Floor: the largest whole number that is not above x, for the finite x of magnitude at most 2^31, which are the
-- domain. Outside it the whole number is i64::MIN and the float is NaN. Specification 4. Assumes nothing.
use Rattle.std.specs.Prelude.{ℕ, ◌+◌, ◌-◌, ◌*◌, ◌/◌, ◌^◌, Bool, true, false, cond, ℤ, pos, negsuc, neg_ℤ, ◌==◌, from_bits, nat_le, Float}
use Rattle.std.specs.Float.{nan, inf, fin, binary64}
use Rattle.std.specs.Float.Ieee.{up, down, of_int}

-- a / c, rounded up
abbrev pub ceil_div : ℕ → ℕ → ℕ
ceil_div a c = (a + (c - 1)) / c

-- m * up e / down e is the magnitude: it is rounded down where x is positive, and up where x is negative
unfoldable pub floorℤ : Float → ℤ
floorℤ nan = pos 0
floorℤ (inf s) = pos 0
floorℤ (fin false m e) = pos (m * up e / down e)
floorℤ (fin true m e) = neg_ℤ (pos (ceil_div (m * up e) (down e)))

-- finite, and of magnitude at most 2^31
unfoldable pub in_domain : Float → Bool
in_domain nan = false
in_domain (inf s) = false
in_domain (fin s m e) = nat_le (m * up e) (2 ^ 31 * down e)

-- the largest number of the domain
abbrev pub domain_end : Float
domain_end = from_bits binary64 0x41e0_0000_0000_0000  -- 2^31

unfoldable pub is_zero : Float → Bool
is_zero nan = false
is_zero (inf s) = false
is_zero (fin s m e) = m == 0

-- the floor as an i64: -2^63, which is i64::MIN, outside the domain
unfoldable pub floor_i64 : Float → ℤ
floor_i64 x = cond (in_domain x) (floorℤ x) (negsuc (2 ^ 63 - 1))

-- the floor as an f64: a zero is its own floor, with its sign. NaN outside the domain
unfoldable pub floor_f64 : Float → Float
floor_f64 x = cond (in_domain x) (cond (is_zero x) x (of_int binary64 (floorℤ x))) nan
