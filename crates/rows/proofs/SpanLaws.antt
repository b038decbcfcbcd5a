-- A span of a row. A source point that is read back from its coordinates is that point, so it shows its colour and
-- counts its matte pixel; and a row that is done up to a pixel, with a span put behind it, is done up to the
-- span's end. Assumes nothing.
use mathlib.Core.Path.{◌≡◌, refl, sym, ap, ap₂, ◌∙◌, subst, subst⁻¹}
use mathlib.Core.Bool.{cond}
use mathlib.Core.List.{List, ◌++◌, append_assoc}
use Prim.Native.Nat.{ℕ, ◌+◌, ◌-◌, ◌*◌, ◌≤◌, ◌<◌}
use native.Mathlib.Nat.{mul-one}
use native.Mathlib.Omega.{arith}
use lib.Ieee.{Float}
use lib.ListN.{length, take, drop}
use Rattle.exact.specs.Vector.{at}
use Rattle.inverse.specs.declared.frame.Frame.{Frame}
use Rattle.point.specs.declared.point.Point.{Point}
use Rattle.picture.specs.declared.colour.Rgba.{Rgba}
use Rattle.fast_points.specs.Points.{Points}
use Rattle.band.specs.Band.{
  Mapped,
  Source,
  framed,
  shown,
  colour_at,
  matte_pixels_at,
  kept_colour,
  kept_matte_pixels,
  pixel_bytes,
  put_pixels,
  span_bytes,
}
use Rattle.band.specs.Joined.{joined, totalled}
use Rattle.band.proofs.InnerLaws.{put_same}
use Rattle.band.proofs.JoinedLaws.{joined_cut, joined_length, totalled_same, totalled_cut, totalled_most}
use Rattle.band.proofs.PixelLaws.{SoFar, so_far_next, pixel_length}
use Rattle.band.proofs.RowLaws.{RowHolds}

-- ---- the points read back
module _ (s : Source) (frame : Frame) (first j n : ℕ) (us vs : List Float)
    (P : Points frame first j n us vs) where
  abbrev f : Mapped
  f = framed frame

  pub span_mattes : totalled (λ (k : ℕ). kept_matte_pixels (at us k) (at vs k)) n ≡ totalled
      (λ (k : ℕ). matte_pixels_at f (first + k) j) n
  span_mattes =
      totalled_same (λ (k : ℕ). kept_matte_pixels (at us k) (at vs k)) (λ (k : ℕ). matte_pixels_at f (first + k) j) n
      (λ k h. ap (λ (p : Point). cond p.usable 0 1) (sym (P.kept k h)))

  pub span_colours : (out_channels pixel : ℕ) (band : List ℕ)
      → span_bytes s out_channels us vs n pixel band
      ≡ put_pixels out_channels (λ (k : ℕ). colour_at s f (first + k) j) n pixel band
  span_colours out_channels pixel band =
      put_same out_channels (λ (k : ℕ). kept_colour s (at us k) (at vs k)) (λ (k : ℕ). colour_at s f (first + k) j) n
      pixel band (λ k h. ap (shown s) (sym (P.kept k h)))

-- ---- a row with a span more
pub part_most : {g : ℕ → ℕ} (i n : ℕ) {r : ℕ} → ((k : ℕ) → g k ≤ 1) → r ≡ totalled (λ (k : ℕ). g (i + k)) n → r ≤ n
part_most {g} i n o e = subst⁻¹ (λ (z : ℕ). z ≤ n) e
    (subst (λ (z : ℕ). totalled (λ (k : ℕ). g (i + k)) n ≤ z) (mul-one n)
    (totalled_most (λ (k : ℕ). g (i + k)) 1 (λ k. o (i + k)) n))

module _ {out_channels out-width pixel : ℕ} {f : ℕ → Rgba} {g : ℕ → ℕ} {b now : List ℕ} {matte-pixels i : ℕ}
    (H : RowHolds out_channels out-width pixel f g b now matte-pixels i) where
  pub row_part : (n : ℕ) → i + n ≤ out-width → {r : ℕ} {after : List ℕ} → r ≡ totalled (λ (k : ℕ). g (i + k)) n
      → after ≡ put_pixels out_channels (λ (k : ℕ). f (i + k)) n (pixel + i) now
      → RowHolds out_channels out-width pixel f g b after (matte-pixels + r) (i + n)
  row_part n h {r} {after} e w =
      record {
        far = record {
          is = w ∙ ap (λ (m : ℕ). take ((pixel + i) * out_channels * 4) now ++ piece ++ drop m now)
              (sym (ends pixel i n out_channels)) ∙ N.is
              ∙ ap (λ (x : List ℕ). x ++ drop ((pixel + i) * out_channels * 4 + n * (out_channels * 4)) b) grouped
              ∙ ap (λ (m : ℕ). take (pixel * out_channels * 4) b ++ joined q (i + n) ++ drop m b)
              (ends pixel i n out_channels ∙ moved pixel i n out_channels);
          long = ap length (sym grouped) ∙ N.long ∙ ends pixel i n out_channels ∙ moved pixel i n out_channels;
        };
        count = ap₂ ◌+◌ H.count e ∙ sym (totalled_cut g i n);
        ones = H.ones;
        few = more matte-pixels i r n H.few (part_most i n H.ones e);
        most = h;
      }
    where
      q : ℕ → List ℕ
      q k = pixel_bytes out_channels (f k)

      piece : List ℕ
      piece = joined (λ (k : ℕ). pixel_bytes out_channels (f (i + k))) n

      ends : (p i n d : ℕ) → (p + i) * d * 4 + n * (d * 4) ≡ (p + i + n) * d * 4
      ends p i n d = omega arith

      moved : (p i n d : ℕ) → (p + i + n) * d * 4 ≡ (p + (i + n)) * d * 4
      moved p i n d = omega arith

      N : SoFar b (take ((pixel + i) * out_channels * 4) now ++ piece
          ++ drop ((pixel + i) * out_channels * 4 + n * (out_channels * 4)) now) (take (pixel * out_channels * 4) b
          ++ joined q i ++ piece) ((pixel + i) * out_channels * 4 + n * (out_channels * 4))
      N = so_far_next H.far ((pixel + i) * out_channels * 4) refl piece (n * (out_channels * 4))
          (joined_length (λ (k : ℕ). pixel_bytes out_channels (f (i + k))) (out_channels * 4)
          (λ k. pixel_length out_channels (f (i + k))) n)

      grouped : take (pixel * out_channels * 4) b ++ joined q i ++ piece ≡ take (pixel * out_channels * 4) b
          ++ joined q (i + n)
      grouped = append_assoc (take (pixel * out_channels * 4) b) (joined q i) piece
          ∙ ap (λ (x : List ℕ). take (pixel * out_channels * 4) b ++ x) (sym (joined_cut q i n))

      more : (m i r n : ℕ) → m ≤ i → r ≤ n → m + r ≤ i + n
      more m i r n a c = omega arith

-- a span of what is left stays within the row
pub within_row : (i n out-width : ℕ) → i < out-width → n ≤ out-width - i → i + n ≤ out-width
within_row i n out-width h l = omega arith
