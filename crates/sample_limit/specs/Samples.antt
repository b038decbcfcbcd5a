-- Whether one of the first samples is not finite or above 65,536 in magnitude: refusal 5 of samples (specification 2).
-- Assumes nothing.
use Rattle.std.specs.Prelude.{ℕ, ◌+◌, ◌*◌, Bool, false, not, ◌||◌, List}
use Rattle.exact.specs.Loop.{up_to}
use Rattle.endian.specs.Bytes.{sample_at, sample_limit}
use Rattle.number.specs.Magnitude.{within}

-- the sample numbered k is
abbrev pub beyond_limit : List ℕ → ℕ → Bool
beyond_limit bytes k = not (within sample_limit (sample_at bytes k))

-- one of the first n is
unfoldable pub large : List ℕ → ℕ → Bool
large bytes n = up_to (λ (k : ℕ) (t : Bool). t || beyond_limit bytes k) 0 n false

-- ---- the order in which the code asks, which changes nothing (proofs/PartsLaws)
-- one of eight samples is, m apart, from the one numbered k on
abbrev pub one_of_eight : List ℕ → ℕ → ℕ → Bool
one_of_eight bytes m k =
    beyond_limit bytes k || beyond_limit bytes (k + m) || beyond_limit bytes (k + 2 * m) || beyond_limit bytes (k + 3 * m)
    || beyond_limit bytes (k + 4 * m)
    || beyond_limit bytes (k + 5 * m)
    || beyond_limit bytes (k + 6 * m)
    || beyond_limit bytes (k + 7 * m)

-- one of n in each of eight parts, which start m apart
abbrev pub in_parts : List ℕ → ℕ → ℕ → Bool
in_parts bytes m n = up_to (λ (k : ℕ) (t : Bool). t || one_of_eight bytes m k) 0 n false
