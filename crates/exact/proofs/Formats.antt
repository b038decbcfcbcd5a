-- The numbers of a format: its digits, the weights of its pattern's fields and where it ends. They hold for both
-- formats, by their values or by what the library says of every format. Provides: `prec_pos`, `hid_pos`, `top_pos`;
-- `twice_hid` (the leading digit's weight); `overflow-is`, `whole_room` (where a format ends); `infinite` (the
-- infinity's pattern) and `below_top` (patterns up to it leave the sign's bit clear). Assumes nothing.
use mathlib.Core.Path.{◌≡◌, refl, subst}
use Prim.Native.Nat.{ℕ, suc, ◌+◌, ◌-◌, ◌*◌, ◌^◌, ◌≤◌, ◌<◌}
use native.Mathlib.Nat.{lt_of_le_of_lt, lt-suc_self, mul_comm, mul-pos, mul-lt-mul_of_pos_right, zero-lt-suc}
use lib.Dec.{lit<}
use lib.Pow.{pow_pos}
use lib.Ieee.{Format, binary32, binary64, prec, emax, low, hid, ones, top}
use lib.Ieee.Fits.{two, two-le_pos}
use lib.Ieee.Scale.{overflow}

pub prec_pos : (f : Format) → 0 < prec f
prec_pos f = two-le_pos (prec f) (two f)

pub hid_pos : (f : Format) → 0 < hid f
hid_pos f = pow_pos (prec f - 1)

pub top_pos : (f : Format) → 0 < top f
top_pos f = mul-pos (hid_pos f) (zero-lt-suc (ones f))

pub twice_hid : (f : Format) → 2 ^ prec f ≡ 2 * hid f
twice_hid binary32 = refl
twice_hid binary64 = refl

-- ---- the end of a format: its first infinite number of units, and room below it for a whole number of all digits
pub overflow-is : (f : Format) → overflow f ≡ hid f * 2 ^ (2 * emax f)
overflow-is binary32 = refl
overflow-is binary64 = refl

pub whole_room : (f : Format) → prec f + low f < low f + suc (emax f)
whole_room binary32 = lit< tt
whole_room binary64 = lit< tt

-- ---- the infinity's pattern
abbrev pub infinite : Format → ℕ
infinite f = ones f * hid f

pub below_top : (f : Format) (p : ℕ) → p ≤ infinite f → p < top f
below_top f p h = lt_of_le_of_lt h
    (subst (λ (x : ℕ). infinite f < x) (mul_comm (suc (ones f)) (hid f))
    (mul-lt-mul_of_pos_right (lt-suc_self (ones f)) (hid_pos f)))
