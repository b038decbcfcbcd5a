-- An index along one side of a picture, of n pixels numbered from 0: where it falls by each rule of the Rust. An index
-- below 0 is `negsuc a`, which is -1 - a: a steps back from -1. Specification 8. Assumes nothing.
use Rattle.std.specs.Prelude.{ℕ, ◌+◌, ◌-◌, ◌*◌, ◌/◌, ◌%◌, ◌^◌, Bool, false, cond, ltb, ℤ, pos, negsuc}

-- the index that 64 bits stand for in two's complement
unfoldable pub signed : ℕ → ℤ
signed b = cond (ltb b (2 ^ 63)) (pos b) (negsuc (2 ^ 64 - 1 - b))

-- 0 <= v && v < n
unfoldable pub in_range : ℤ → ℕ → Bool
in_range (pos a) n = ltb a n
in_range (negsuc a) n = false

-- v.clamp(0, n - 1)
unfoldable pub clamped : ℤ → ℕ → ℕ
clamped (pos a) n = cond (ltb a n) a (n - 1)
clamped (negsuc a) n = 0

-- v.rem_euclid(n): -1 is n - 1
unfoldable pub tile : ℤ → ℕ → ℕ
tile (pos a) n = a % n
tile (negsuc a) n = n - 1 - a % n

-- every other copy is turned round: m = v.rem_euclid(2 * n), and m if m < n else 2 * n - 1 - m
unfoldable pub mirror : ℤ → ℕ → ℕ
mirror v n = cond (ltb (tile v (2 * n)) n) (tile v (2 * n)) (2 * n - 1 - tile v (2 * n))

-- v.div_euclid(n), which is a / n, or -(a / n + 1) of an index below 0, modulo 2
unfoldable pub parity : ℤ → ℕ → ℕ
parity (pos a) n = a / n % 2
parity (negsuc a) n = (a / n + 1) % 2
