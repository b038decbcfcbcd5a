-- Where the test of the samples fails, every one of them is a number of at most 65,536, by the laws of that test.
-- Assumes nothing.
use mathlib.Core.Path.{◌≡◌, sym, subst}
use mathlib.Core.Bool.{true, false}
use mathlib.Core.List.{List}
use Prim.Native.Nat.{ℕ, ◌<◌}
use lib.Dec.{T, lit≤}
use Rattle.exact.specs.Fraction.{frac}
use Rattle.endian.specs.Bytes.{sample_at, sample_limit}
use Rattle.number.specs.Magnitude.{within}
use Rattle.sampler.proofs.AtFinite.{within_bounded}
use Rattle.picture.specs.Pixel.{widened, pixel_at}
use Rattle.picture.proofs.LimitedLaws as Limits
use Rattle.taps.specs.Weighted.{Bounded, BoundedBy}
use Rattle.distort.specs.Job.{colour_of}
use Rattle.distort.specs.Refusal.{large}

module _ (bytes : List ℕ) where
  pub all_within : (n : ℕ) → large bytes n ≡ false → (k : ℕ) → k < n → within sample_limit (sample_at bytes k) ≡ true
  unfolding large
  all_within n fine k h = Limits.all_within bytes n fine k h

  pub all_bounded : (n : ℕ) → large bytes n ≡ false → (k : ℕ) → k < n → Bounded (frac 65536 1) (sample_at bytes k)
  all_bounded n fine k h = within_bounded (sample_at bytes k) (subst T (sym (all_within n fine k h)) tt)

  -- a background or a matte
  pub colour_bounded : large bytes 4 ≡ false → BoundedBy (frac 65536 1) (colour_of bytes)
  unfolding pixel_at widened
  colour_bounded fine = record {
    red = all_bounded 4 fine 0 (lit≤ tt);
    green = all_bounded 4 fine 1 (lit≤ tt);
    blue = all_bounded 4 fine 2 (lit≤ tt);
    alpha = all_bounded 4 fine 3 (lit≤ tt);
  }
