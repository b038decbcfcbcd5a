-- Where the test of the samples finds none that is large, each is a number of at most 65,536, and its pattern is at
-- most that number's: one that is not would have made the test true for good, since no turn makes it false again.
-- Provides: `all_within` (of the values), `limited_by` (of the patterns). Assumes nothing.
use mathlib.Core.Path.{◌≡◌, sym, ◌∙◌, subst}
use mathlib.Core.Bool.{Bool, true, false, not, ◌||◌}
use mathlib.Core.List.{List}
use Prim.Native.Nat.{ℕ, ◌+◌, ◌*◌, ◌%◌, ◌≤◌, ◌<◌}
use native.Mathlib.Omega.{arith}
use borrow.Author.Tests.{not-false}
use lib.Dec.{T, leb→le, lit≤}
use lib.ListN.{length}
use lib.Ieee.{binary32}
use Rattle.exact.specs.Loop.{up_to}
use Rattle.exact.proofs.Any.{none_each}
use Rattle.endian.specs.Bytes.{u32_at, sample_at, sample_pattern, sample_limit}
use Rattle.number.specs.Magnitude.{within}
use Rattle.number.proofs.MagnitudeTests.{within_bits}
use Rattle.picture.specs.Pixel.{Limited}

module _ (bytes : List ℕ) where
  -- the test of one sample more
  abbrev pub step : ℕ → Bool → Bool
  step k t = t || not (within sample_limit (sample_at bytes k))

  pub all_within : (n : ℕ) → up_to step 0 n false ≡ false → (k : ℕ) → k < n
      → within sample_limit (sample_at bytes k) ≡ true
  all_within n fine k h =
      not-false (within sample_limit (sample_at bytes k))
      (none_each (λ (j : ℕ). not (within sample_limit (sample_at bytes j))) n fine k h)

  pub limited_by : (n : ℕ) → length bytes ≡ n * 4 → up_to step 0 n false ≡ false → Limited bytes
  limited_by n e fine = record {
    sample = λ k h.
        leb→le (u32_at bytes (4 * k) % 0x8000_0000) sample_pattern
        (subst T (sym (within_bits binary32 (u32_at bytes (4 * k)) sample_pattern (lit≤ tt)
        ∙ all_within n fine k (below k h))) tt);
  }
    where
      below : (k : ℕ) → (k + 1) * 4 ≤ length bytes → k < n
      below k h = omega arith
