-- The listing's text, and how a text is put into a buffer. Specification 12.1. Assumes nothing.
use Rattle.std.specs.Prelude.{ℕ, zero, suc, ◌+◌, ◌*◌, ◌/◌, ◌%◌, ◌^◌, cond, List, [], ◌∷◌, ◌++◌, ltb, get_or, set, Float}
use Rattle.std.specs.Float.{nan, binary64}
use Rattle.std.specs.Float.Ieee.{to_bits}
use Rattle.endian.specs.Bytes.{ascii}

-- s with a text from `at` on
unfoldable pub put_text : List ℕ → ℕ → List ℕ → List ℕ
put_text s at [] = s
put_text s at (b ∷ text) = put_text (set s at b) (at + 1) text

-- 0 (48) to 9, then a (97) to f
unfoldable pub hex_digit : ℕ → ℕ
hex_digit n = cond (ltb n 10) (48 + n) (87 + n)

-- the lowest k digits of n, the highest first
unfoldable pub hex_text : ℕ → ℕ → List ℕ
hex_text zero n = []
hex_text (suc k) n = hex_digit (n / 2 ^ (4 * k) % 16) ∷ hex_text k n

-- a coefficient: its name, a space (32), its bits and a line feed (10)
abbrev pub line_text : ℕ → Float → List ℕ
line_text name x = name ∷ (32 ∷ (hex_text 16 (to_bits binary64 x) ++ 10 ∷ []))

-- n coefficients from the one numbered k on; a (97) is the name of the first
unfoldable pub lines_text : ℕ → ℕ → List Float → List ℕ
lines_text k zero coefficients = []
lines_text k (suc n) coefficients = line_text (97 + k) (get_or coefficients k nan) ++ lines_text (k + 1) n coefficients

-- the six of `Affine`: u is a x + b y + c, and v is d x + e y + f
unfoldable pub listing_text : List Float → List ℕ
listing_text coefficients = ascii "name bits\n" ++ lines_text 0 6 coefficients

-- a refusal's number has one digit here
unfoldable pub refused_text : ℕ → List ℕ
refused_text n = ascii "refused " ++ (48 + n % 10) ∷ (10 ∷ [])
