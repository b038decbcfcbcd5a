-- The laws of a band: its length, a part of its rows, rows in two parts, and how many pixels are matte. A band for some
-- rows of a job holds those rows of the job's whole output, byte for byte, and its matte pixels add up with the
-- others'. Assumes nothing.
use mathlib.Core.Path.{◌≡◌, sym, ap, ◌∙◌}
use mathlib.Core.List.{List, ◌++◌}
use Prim.Native.Nat.{ℕ, ◌+◌, ◌*◌, ◌≤◌}
use native.Mathlib.Nat.{add_assoc, zero-add}
use native.Mathlib.Omega.{arith}
use lib.ListN.{length, take, drop}
use Rattle.band.specs.Band.{Mapped, Source, row_bytes, rows_bytes, row_matte_pixels, rows_matte_pixels}
use Rattle.distort.specs.Call.{out_width, mapped_of, source_of, rows_of, matte_pixels_of, left}
use Rattle.distort.specs.Job.{Image, Given, Call}
use Rattle.band.specs.Joined.{joined}
use Rattle.distort.specs.Refusal.{out_channels, refusal}
use Rattle.band.proofs.JoinedLaws.{joined_length, joined_part, joined_cut, joined_same, totalled_cut, totalled_same}
use Rattle.band.proofs.LengthLaws.{row_length_law}
use Rattle.distort.proofs.CallLaws.{left_accepted}

-- ---- of a source and a frame
module _ (s : Source) (f : Mapped) (channels width : ℕ) where
  bytes_length : (first rows : ℕ) → length (rows_bytes s f channels width first rows) ≡ rows * width * channels * 4
  unfolding rows_bytes
  bytes_length first rows =
      joined_length (λ (r : ℕ). row_bytes s f channels width (first + r)) (width * channels * 4)
      (λ r. row_length_law s f channels width (first + r)) rows ∙ grouped rows width channels
    where
      grouped : (r w c : ℕ) → r * (w * c * 4) ≡ r * w * c * 4
      grouped r w c = omega arith

  -- the rows from first + m on are the rows m and on from `first`
  moved : (first m n : ℕ) → joined (λ (r : ℕ). row_bytes s f channels width (first + (m + r))) n ≡ rows_bytes s f
      channels width (first + m) n
  unfolding rows_bytes
  moved first m n =
      joined_same (λ (r : ℕ). row_bytes s f channels width (first + (m + r)))
      (λ (r : ℕ). row_bytes s f channels width (first + m + r)) n
      (λ k h. ap (row_bytes s f channels width) (sym (add_assoc first m k)))

  bytes_part : (first m n t : ℕ) → m + n ≤ t
      → take (n * (width * channels * 4)) (drop (m * (width * channels * 4)) (rows_bytes s f channels width first t)) ≡
      rows_bytes s f channels width (first + m) n
  unfolding rows_bytes
  bytes_part first m n t h =
      joined_part (λ (r : ℕ). row_bytes s f channels width (first + r)) (width * channels * 4)
      (λ r. row_length_law s f channels width (first + r)) m n t h ∙ moved first m n

  bytes_join : (first m n : ℕ) → rows_bytes s f channels width first (m + n) ≡ rows_bytes s f channels width first m
      ++ rows_bytes s f channels width (first + m) n
  unfolding rows_bytes
  bytes_join first m n =
      joined_cut (λ (r : ℕ). row_bytes s f channels width (first + r)) m n
      ∙ ap (λ (x : List ℕ). rows_bytes s f channels width first m ++ x) (moved first m n)

  matte_join : (first m n : ℕ)
      → rows_matte_pixels f width first (m + n) ≡ rows_matte_pixels f width first m + rows_matte_pixels f width (first + m) n
  unfolding rows_matte_pixels
  matte_join first m n =
      totalled_cut (λ (r : ℕ). row_matte_pixels f width (first + r)) m n
      ∙ ap (λ (z : ℕ). rows_matte_pixels f width first m + z)
      (totalled_same (λ (r : ℕ). row_matte_pixels f width (first + (m + r)))
      (λ (r : ℕ). row_matte_pixels f width (first + m + r)) n
      (λ k h. ap (row_matte_pixels f width) (sym (add_assoc first m k))))

-- ---- of a job
module _ (p : Image) (g : Given) where
  -- the bytes of a row
  abbrev pub row_length : ℕ
  row_length = out_width p g * out_channels p g * 4

  pub rows_length : (first rows : ℕ) → length (rows_of p g first rows) ≡ rows * out_width p g * out_channels p g * 4
  unfolding rows_of
  rows_length first rows = bytes_length (source_of p g) (mapped_of p g) (out_channels p g) (out_width p g) first rows

  -- rows r to r + k of the warp
  pub rows_part : (r k n : ℕ) → r + k ≤ n
      → take (k * row_length) (drop (r * row_length) (rows_of p g 0 n)) ≡ rows_of p g r k
  unfolding rows_of
  rows_part r k n h =
      bytes_part (source_of p g) (mapped_of p g) (out_channels p g) (out_width p g) 0 r k n h
      ∙ ap (λ (m : ℕ). rows_bytes (source_of p g) (mapped_of p g) (out_channels p g) (out_width p g) m k) (zero-add r)

  -- rows in two parts
  pub rows_join : (r k l : ℕ) → rows_of p g r (k + l) ≡ rows_of p g r k ++ rows_of p g (r + k) l
  unfolding rows_of
  rows_join r k l = bytes_join (source_of p g) (mapped_of p g) (out_channels p g) (out_width p g) r k l

  pub mattes_add : (r k l : ℕ) → matte_pixels_of p g r (k + l) ≡ matte_pixels_of p g r k + matte_pixels_of p g (r + k) l
  unfolding matte_pixels_of
  mattes_add r k l = matte_join (source_of p g) (mapped_of p g) (out_channels p g) (out_width p g) r k l

-- ---- of calls: what an accepted call for some rows leaves are those rows of what the accepted call for all of them,
-- from row 0 on, leaves
pub left_part : (c warp : Call) → c.image ≡ warp.image → c.given ≡ warp.given → refusal c ≡ 0 → refusal warp ≡ 0
    → warp.first ≡ 0 → c.first + c.rows ≤ warp.rows
    → left c ≡ take (c.rows * row_length warp.image warp.given)
    (drop (c.first * row_length warp.image warp.given) (left warp))
left_part c warp ei eg a b f h =
    left_accepted c a
    ∙ (λ t. rows_of (ei t) (eg t) c.first c.rows)
    ∙ sym (rows_part warp.image warp.given c.first c.rows warp.rows h)
    ∙ ap (λ (x : List ℕ). take (c.rows * row_length warp.image warp.given)
    (drop (c.first * row_length warp.image warp.given) x))
    (sym (left_accepted warp b ∙ ap (λ (n : ℕ). rows_of warp.image warp.given n warp.rows) f))
