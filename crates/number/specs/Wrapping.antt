-- The product modulo 2^64, as Rust's `wrapping_mul` of u64 has it. Specification 4. Assumes nothing.
use Rattle.std.specs.Prelude.{ℕ, ◌*◌, ◌%◌, ◌^◌}

abbrev pub wrapped : ℕ → ℕ → ℕ
wrapped a b = a * b % 2 ^ 64
