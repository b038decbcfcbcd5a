-- How bytes are numbers and floats, for the whole product: a number has its lowest byte first, and a float is its IEEE
-- 754 pattern as such a number. A list of bytes reads as 0 past its end. Specification 1.1. Assumes nothing.
use Rattle.std.specs.Prelude.{ℕ, zero, suc, ◌+◌, ◌-◌, ◌*◌, ◌/◌, ◌%◌, ◌^◌, ◌≤◌, List, [], ◌∷◌, ℤ, pos, negsuc, get_or, set, Float}
use Prim.Native.Char.{code}
use Prim.Native.String.{String, [] as none, ◌∷◌ as ◌then◌}
use Rattle.std.specs.Float.{binary32, binary64}
use Rattle.std.specs.Float.Ieee.{of_bits, to_bits}

-- ---- numbers

-- the number that k bytes of s from `at` on stand for, the lowest first
unfoldable pub number_at : ℕ → List ℕ → ℕ → ℕ
number_at zero s at = 0
number_at (suc k) s at = get_or s at 0 + 256 * number_at k s (at + 1)

-- s with the k lowest bytes of n from `at` on, the lowest first
unfoldable pub store_number : ℕ → List ℕ → ℕ → ℕ → List ℕ
store_number zero s at n = s
store_number (suc k) s at n = store_number k (set s at (n % 256)) (at + 1) (n / 256)

abbrev pub u32_at : List ℕ → ℕ → ℕ
u32_at = number_at 4

abbrev pub u64_at : List ℕ → ℕ → ℕ
u64_at = number_at 8

abbrev pub store_u32 : List ℕ → ℕ → ℕ → List ℕ
store_u32 = store_number 4

abbrev pub store_u64 : List ℕ → ℕ → ℕ → List ℕ
store_u64 = store_number 8

-- a signed number of 64 bits as the number that its bits stand for: -1 is 2^64 - 1
unfoldable pub twos_complement : ℤ → ℕ
twos_complement (pos n) = n
twos_complement (negsuc n) = 2 ^ 64 - suc n

abbrev pub store_i64 : List ℕ → ℕ → ℤ → List ℕ
store_i64 s at z = store_u64 s at (twos_complement z)

-- ---- floats. Every NaN pattern is read as `nan`, which is written as 0x7fc00000 or 0x7ff8000000000000.

abbrev pub f32_at : List ℕ → ℕ → Float
f32_at s at = of_bits binary32 (u32_at s at)

abbrev pub f64_at : List ℕ → ℕ → Float
f64_at s at = of_bits binary64 (u64_at s at)

-- the four bytes are no NaN's pattern: without the sign's bit they are at most the infinity's
abbrev pub no_nan_at : List ℕ → ℕ → Type 0
no_nan_at s at = u32_at s at % 0x8000_0000 ≤ 0x7f80_0000

abbrev pub store_f32 : List ℕ → ℕ → Float → List ℕ
store_f32 s at x = store_u32 s at (to_bits binary32 x)

abbrev pub store_f64 : List ℕ → ℕ → Float → List ℕ
store_f64 s at x = store_u64 s at (to_bits binary64 x)

-- the f32 numbered k of a picture's bytes, and the f64 numbered k of the arguments'
abbrev pub sample_at : List ℕ → ℕ → Float
sample_at s k = f32_at s (4 * k)

abbrev pub argument_at : List ℕ → ℕ → Float
argument_at s k = f64_at s (8 * k)

-- the largest sample in magnitude, and its pattern
abbrev pub sample_pattern : ℕ
sample_pattern = 0x4780_0000

abbrev pub sample_limit : Float
sample_limit = of_bits binary32 sample_pattern  -- 65536.0

-- ---- texts

-- the bytes of an ASCII text
abbrev pub ascii : String → List ℕ
ascii none = []
ascii (c then s) = code c ∷ ascii s
