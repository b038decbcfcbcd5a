-- What no picture has: a side, a number of channels, a length. Refusals 1 and 2 of specification 2. Assumes nothing.
use Rattle.std.specs.Prelude.{ℕ, ◌*◌, Bool, not, ◌||◌, List, eqb, ltb, length}
use Rattle.exact.specs.Limits.{largest_side}

-- ---- 1, size
-- a width or height that is 0 or above the largest
unfoldable pub bad_side : ℕ → Bool
bad_side n = eqb n 0 || ltb largest_side n

-- neither 1, 3 nor 4
unfoldable pub bad_channels : ℕ → Bool
bad_channels n = not (eqb n 1 || (eqb n 3 || eqb n 4))

unfoldable pub bad_size : ℕ → ℕ → ℕ → Bool
bad_size width height channels = bad_side width || (bad_side height || bad_channels channels)

-- ---- 2, stock: the length is not width × height × channels samples of four bytes
unfoldable pub bad_stock : List ℕ → ℕ → ℕ → ℕ → Bool
bad_stock bytes width height channels = not (eqb (length bytes) (width * height * channels * 4))
