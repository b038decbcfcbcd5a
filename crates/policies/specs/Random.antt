-- The mix of the `Random` policy: two indexes as 64 bits each to 64 bits, modulo 2^64, before anything is reduced to a
-- picture's size. Specification 8. Assumes nothing.
use Rattle.std.specs.Prelude.{ℕ, ◌/◌, ◌^◌}
use Rattle.std.specs.Int.Bits.{bit_xor}
use Rattle.number.specs.Wrapping.{wrapped}

-- z ^= z >> k
unfoldable pub folded : ℕ → ℕ → ℕ
folded k z = bit_xor z (z / 2 ^ k)

unfoldable pub mix : ℕ → ℕ → ℕ
mix x y =
    folded 29
    (wrapped
    (folded 31 (bit_xor (wrapped x 0x9E37_79B9_7F4A_7C15) (wrapped y 0xBF58_476D_1CE4_E5B9)))
    0x94D0_49BB_1331_11EB)
