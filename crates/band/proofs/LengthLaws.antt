-- How long a row is in bytes, and how many of its pixels can be matte: pixel by pixel. Assumes nothing.
use mathlib.Core.Path.{◌≡◌, ◌∙◌, subst}
use Prim.Native.Nat.{ℕ, ◌*◌, ◌≤◌}
use native.Mathlib.Nat.{mul-one}
use native.Mathlib.Omega.{arith}
use lib.ListN.{length}
use Rattle.band.specs.Band.{
  Mapped,
  Source,
  point_at,
  colour_at,
  matte_pixels_at,
  pixel_bytes,
  row_bytes,
  row_matte_pixels,
}
use Rattle.band.specs.Joined.{totalled}
use Rattle.band.proofs.JoinedLaws.{joined_length, totalled_most}
use Rattle.band.proofs.PixelLaws.{pixel_length}
use Rattle.band.proofs.RowLaws.{bit_most}

pub row_length_law : (s : Source) (f : Mapped) (channels width j : ℕ)
    → length (row_bytes s f channels width j) ≡ width * channels * 4
unfolding row_bytes
row_length_law s f channels width j =
    joined_length (λ (i : ℕ). pixel_bytes channels (colour_at s f i j)) (channels * 4)
    (λ i. pixel_length channels (colour_at s f i j)) width ∙ grouped width channels
  where
    grouped : (w c : ℕ) → w * (c * 4) ≡ w * c * 4
    grouped w c = omega arith

pub row_matte_most : (f : Mapped) (width j : ℕ) → row_matte_pixels f width j ≤ width
unfolding row_matte_pixels
row_matte_most f width j =
    subst (λ (n : ℕ). totalled (λ (i : ℕ). matte_pixels_at f i j) width ≤ n) (mul-one width)
    (totalled_most (λ (i : ℕ). matte_pixels_at f i j) 1 (λ i. bit_most (point_at f i j).usable) width)
