-- The two loops of the band, with the pixels of a row and the rows of a band as variables: what is done so far grows by
-- a pixel, or by a row, and its length keeps within the band's. Assumes nothing.
use mathlib.Core.Path.{◌≡◌, refl, sym, ap, ◌∙◌, subst, subst⁻¹}
use mathlib.Core.Bool.{Bool, true, false, cond}
use mathlib.Core.List.{List, ◌++◌, append_assoc, append-nil}
use Prim.Native.Nat.{ℕ, ◌+◌, ◌*◌, ◌≤◌, ◌<◌, zero-le}
use native.Mathlib.Nat.{le_refl, le_trans, mul-one, mul-le-mul_left, mul-le-mul_right}
use native.Mathlib.Omega.{arith}
use lib.ListN.{length, take, drop, drop_of_length-le}
use Rattle.picture.specs.Store.{store_pixel}
use Rattle.picture.specs.declared.colour.Rgba.{Rgba}
use Rattle.band.specs.Band.{pixel_bytes, put_pixels}
use Rattle.band.specs.Joined.{joined, totalled}
use Rattle.band.proofs.JoinedLaws.{joined_none, joined_next, totalled_none, totalled_next}
use Rattle.band.proofs.PixelLaws.{Channels, SoFar, so_far_from, so_far_next, so_far_length, pixel_next}

-- ---- counting
pub total_next : (f : ℕ → ℕ) (n : ℕ) {m r : ℕ} → m ≡ totalled f n → r ≡ f n → m + r ≡ totalled f (n + 1)
total_next f n {m} {r} e g = ap (λ (z : ℕ). z + r) e ∙ ap (λ (z : ℕ). totalled f n + z) g ∙ sym (totalled_next f n)

pub bit_most : (t : Bool) → cond t 0 1 ≤ 1
bit_most true = omega arith
bit_most false = le_refl 1

-- ---- a row, from the pixel numbered `pixel` on
abbrev RowSoFar : ℕ → (ℕ → Rgba) → ℕ → List ℕ → List ℕ → ℕ → Type 0
RowSoFar out_channels f pixel b now i =
    SoFar b now (take (pixel * out_channels * 4) b ++ joined (λ (k : ℕ). pixel_bytes out_channels (f k)) i)
    ((pixel + i) * out_channels * 4)

module _ (out_channels out-width pixel : ℕ) (f : ℕ → Rgba) (b : List ℕ)
    (room : (pixel + out-width) * out_channels * 4 ≤ length b) where
  before_room : (i : ℕ) → i ≤ out-width → (pixel + i) * out_channels * 4 ≤ length b
  before_room i h = le_trans (mul-le-mul_right 4 (mul-le-mul_right out_channels (less pixel i out-width h))) room
    where
      less : (p i s : ℕ) → i ≤ s → p + i ≤ p + s
      less p i s h = omega arith

  start : RowSoFar out_channels f pixel b b 0
  start =
      subst (λ (x : List ℕ). SoFar b b x ((pixel + 0) * out_channels * 4)) nothing
      (so_far_from b ((pixel + 0) * out_channels * 4) (before_room 0 (omega arith)))
    where
      none : (p d : ℕ) → (p + 0) * d * 4 ≡ p * d * 4
      none p d = omega arith

      nothing : take ((pixel + 0) * out_channels * 4) b ≡ take (pixel * out_channels * 4) b
          ++ joined (λ (k : ℕ). pixel_bytes out_channels (f k)) 0
      nothing =
          ap (λ (n : ℕ). take n b) (none pixel out_channels)
          ∙ sym (append-nil (take (pixel * out_channels * 4) b))
          ∙ ap (λ (x : List ℕ). take (pixel * out_channels * 4) b ++ x)
          (sym (joined_none (λ (k : ℕ). pixel_bytes out_channels (f k))))

  module _ {now : List ℕ} (i : ℕ) (F : RowSoFar out_channels f pixel b now i) where
    -- room for one pixel more
    room_more : i < out-width → ((pixel + i) * out_channels + out_channels) * 4 ≤ length now
    room_more h =
        subst (λ (n : ℕ). ((pixel + i) * out_channels + out_channels) * 4 ≤ n)
        (sym (so_far_length F (before_room i (omega arith))))
        (subst (λ (n : ℕ). n ≤ length b) (one_more pixel i out_channels) (before_room (i + 1) (omega arith)))
      where
        one_more : (p i d : ℕ) → (p + (i + 1)) * d * 4 ≡ ((p + i) * d + d) * 4
        one_more p i d = omega arith

    next : Channels out_channels → i < out-width
        → RowSoFar out_channels f pixel b (store_pixel now out_channels (pixel + i) (f i)) (i + 1)
    next C h =
        record {
          is = G.is ∙ ap (λ (x : List ℕ). x ++ drop ((pixel + i) * out_channels * 4 + out_channels * 4) b) grouped
              ∙ ap (λ (n : ℕ). take (pixel * out_channels * 4) b ++ joined g (i + 1) ++ drop n b)
              (one_more pixel i out_channels);
          long = ap length (sym grouped) ∙ G.long ∙ one_more pixel i out_channels;
        }
      where
        g : ℕ → List ℕ
        g k = pixel_bytes out_channels (f k)

        one_more : (p i d : ℕ) → (p + i) * d * 4 + d * 4 ≡ (p + (i + 1)) * d * 4
        one_more p i d = omega arith

        G : SoFar b (store_pixel now out_channels (pixel + i) (f i)) (take (pixel * out_channels * 4) b ++ joined g i
            ++ pixel_bytes out_channels (f i)) ((pixel + i) * out_channels * 4 + out_channels * 4)
        G = pixel_next F out_channels (pixel + i) (f i) C refl
            (subst (λ (n : ℕ). n ≤ length b) (sym (one_more pixel i out_channels)) (before_room (i + 1) (omega arith)))

        grouped : take (pixel * out_channels * 4) b ++ joined g i
            ++ pixel_bytes out_channels (f i) ≡ take (pixel * out_channels * 4) b ++ joined g (i + 1)
        grouped = append_assoc (take (pixel * out_channels * 4) b) (joined g i) (pixel_bytes out_channels (f i))
            ∙ ap (λ (x : List ℕ). take (pixel * out_channels * 4) b ++ x) (sym (joined_next g i))

    done_all : i ≡ out-width → now ≡ put_pixels out_channels f out-width pixel b
    done_all e = F.is ∙ ap (λ (n : ℕ). put_pixels out_channels f n pixel b) e

    same : i ≤ out-width → length now ≡ length b
    same h = so_far_length F (before_room i h)

-- the loop's invariant after i pixels, of which `matte-pixels` are matte
pub record RowHolds (out_channels out-width pixel : ℕ) (f : ℕ → Rgba) (g : ℕ → ℕ) (b now : List ℕ)
    (matte-pixels i : ℕ) : Type 0 where
  pub far : RowSoFar out_channels f pixel b now i
  pub count : matte-pixels ≡ totalled g i
  pub ones : (k : ℕ) → g k ≤ 1
  pub few : matte-pixels ≤ i
  pub most : i ≤ out-width

module _ {out_channels out-width pixel : ℕ} {f : ℕ → Rgba} {g : ℕ → ℕ} {b : List ℕ}
    (room : (pixel + out-width) * out_channels * 4 ≤ length b) where
  pub row_start : ((k : ℕ) → g k ≤ 1) → RowHolds out_channels out-width pixel f g b b 0 0
  row_start o = record {
    far = start out_channels out-width pixel f b room;
    count = sym (totalled_none g);
    ones = o;
    few = le_refl 0;
    most = zero-le;
  }

  module _ {now : List ℕ} {matte-pixels i : ℕ} (H : RowHolds out_channels out-width pixel f g b now matte-pixels i)
    where
      pub row_room : i < out-width → ((pixel + i) * out_channels + out_channels) * 4 ≤ length now
      row_room h = room_more out_channels out-width pixel f b room i H.far h

      pub row_same : length now ≡ length b
      row_same = same out_channels out-width pixel f b room i H.far H.most

      -- what the next pixel adds to the matte ones
      pub row_one : {r : ℕ} → r ≡ g i → r ≤ 1
      row_one e = subst⁻¹ (λ (z : ℕ). z ≤ 1) e (H.ones i)

      pub row_next : Channels out_channels → i < out-width → {r : ℕ} {after : List ℕ} → r ≡ g i
          → after ≡ store_pixel now out_channels (pixel + i) (f i)
          → RowHolds out_channels out-width pixel f g b after (matte-pixels + r) (i + 1)
      row_next C h {r} {after} e w =
          record {
            far = subst (λ (x : List ℕ). RowSoFar out_channels f pixel b x (i + 1)) (sym w)
                (next out_channels out-width pixel f b room i H.far C h);
            count = total_next g i H.count e;
            ones = H.ones;
            few = more H.few (row_one e);
            most = omega arith;
          }
        where
          more : {m i r : ℕ} → m ≤ i → r ≤ 1 → m + r ≤ i + 1
          more h l = omega arith

      pub row_done : i ≡ out-width → now ≡ put_pixels out_channels f out-width pixel b
      row_done e = done_all out_channels out-width pixel f b room i H.far e

-- the places in the band are below its length
pub place_small : (pixel out-width out_channels l : ℕ) → 0 < out_channels → (pixel + out-width) * out_channels * 4 ≤ l
    → pixel + out-width ≤ l
place_small pixel out-width out_channels l h r =
    le_trans (subst (λ (n : ℕ). n ≤ (pixel + out-width) * out_channels) (mul-one (pixel + out-width))
    (mul-le-mul_left (pixel + out-width) h)) (less ((pixel + out-width) * out_channels) l r)
  where
    less : (n l : ℕ) → n * 4 ≤ l → n ≤ l
    less n l h = omega arith

-- ---- rows, one after another
-- the loop's invariant after r rows of `out-width` pixels each, of which `matte-pixels` pixels are matte
pub record RowsHolds (out_channels out-width rows : ℕ) (f : ℕ → List ℕ) (g : ℕ → ℕ) (b now : List ℕ)
    (matte-pixels r : ℕ) : Type 0 where
  pub far : SoFar b now (joined f r) (r * out-width * out_channels * 4)
  pub count : matte-pixels ≡ totalled g r
  pub parts : (k : ℕ) → g k ≤ out-width
  pub few : matte-pixels ≤ r * out-width
  pub most : r ≤ rows

rows_room : (out_channels out-width rows l : ℕ) → l ≡ rows * out-width * out_channels * 4 → (r : ℕ) → r ≤ rows
    → r * out-width * out_channels * 4 ≤ l
rows_room out_channels out-width rows l e r h =
    subst⁻¹ (λ (n : ℕ). r * out-width * out_channels * 4 ≤ n) e
    (mul-le-mul_right 4 (mul-le-mul_right out_channels (mul-le-mul_right out-width h)))

one_more : (r s d : ℕ) → (r + 1) * s * d * 4 ≡ (r * s + s) * d * 4
one_more r s d = omega arith

module _ {out_channels out-width rows : ℕ} {f : ℕ → List ℕ} {g : ℕ → ℕ} {b : List ℕ}
    (whole : length b ≡ rows * out-width * out_channels * 4) where
  pub rows_start : ((k : ℕ) → g k ≤ out-width) → RowsHolds out_channels out-width rows f g b b 0 0
  rows_start o =
      record {
        far = record {
          is = ap (λ (n : ℕ). drop n b) (none out-width out_channels)
              ∙ ap (λ (x : List ℕ). x ++ drop (0 * out-width * out_channels * 4) b) (sym (joined_none f));
          long =
              ap length (joined_none f) ∙ none out-width out_channels;
        };
        count = sym (totalled_none g);
        parts = o;
        few = zero-le;
        most = zero-le;
      }
    where
      none : (s d : ℕ) → 0 ≡ 0 * s * d * 4
      none s d = omega arith

  module _ {now : List ℕ} {matte-pixels r : ℕ} (H : RowsHolds out_channels out-width rows f g b now matte-pixels r)
    where
      pub rows_same : length now ≡ length b
      rows_same = so_far_length H.far (rows_room out_channels out-width rows (length b) whole r H.most)

      pub rows_fit : r < rows → (r * out-width + out-width) * out_channels * 4 ≤ length now
      rows_fit h = subst⁻¹ (λ (n : ℕ). (r * out-width + out-width) * out_channels * 4 ≤ n) rows_same
          (subst (λ (n : ℕ). n ≤ length b) (one_more r out-width out_channels)
          (rows_room out_channels out-width rows (length b) whole (r + 1) (omega arith)))

      pub rows_part : {m : ℕ} → m ≡ g r → m ≤ out-width
      rows_part e = subst⁻¹ (λ (z : ℕ). z ≤ out-width) e (H.parts r)

      pub rows_next : r < rows → length (f r) ≡ out-width * out_channels * 4 → {m : ℕ} {after : List ℕ} → m ≡ g r
          → after ≡ take (r * out-width * out_channels * 4) now ++ f r
          ++ drop ((r * out-width + out-width) * out_channels * 4) now
          → RowsHolds out_channels out-width rows f g b after (matte-pixels + m) (r + 1)
      rows_next h l {m} {after} e w =
          record {
            far =
                record {
                  is = w ∙ ap (λ (n : ℕ). take (r * out-width * out_channels * 4) now ++ f r ++ drop n now)
                      (sym (added r out-width out_channels)) ∙ N.is
                      ∙ ap (λ (x : List ℕ). x ++ drop (r * out-width * out_channels * 4 + out-width * out_channels * 4)
                      b) (sym (joined_next f r))
                      ∙ ap (λ (n : ℕ). joined f (r + 1) ++ drop n b) (added r out-width out_channels
                      ∙ sym (one_more r out-width out_channels));
                  long = ap length (joined_next f r) ∙ N.long ∙ added r out-width out_channels
                      ∙ sym (one_more r out-width out_channels);
                };
            count = total_next g r H.count e;
            parts = H.parts;
            few = more r out-width matte-pixels m H.few (rows_part e);
            most = omega arith;
          }
        where
          added : (r s d : ℕ) → r * s * d * 4 + s * d * 4 ≡ (r * s + s) * d * 4
          added r s d = omega arith

          N : SoFar b (take (r * out-width * out_channels * 4) now ++ f r
              ++ drop (r * out-width * out_channels * 4 + out-width * out_channels * 4) now) (joined f r ++ f r)
              (r * out-width * out_channels * 4 + out-width * out_channels * 4)
          N = so_far_next H.far (r * out-width * out_channels * 4) refl (f r) (out-width * out_channels * 4) l

          more : (r s n m : ℕ) → n ≤ r * s → m ≤ s → n + m ≤ (r + 1) * s
          more r s n m h l = omega arith

      pub rows_done : r ≡ rows → now ≡ joined f rows
      rows_done e =
          H.far.is
          ∙ ap (λ (n : ℕ). joined f n ++ drop (n * out-width * out_channels * 4) b) e
          ∙ ap (λ (x : List ℕ). joined f rows ++ x)
          (drop_of_length-le b (subst (λ (n : ℕ). n ≤ rows * out-width * out_channels * 4) (sym whole)
          (le_refl (rows * out-width * out_channels * 4))))
          ∙ append-nil (joined f rows)

-- what is counted and numbered stays small
pub product_small : (r s : ℕ) → r ≤ 4096 → s ≤ 4096 → r * s ≤ 16777216
product_small r s a b = le_trans (mul-le-mul_left r b) (mul-le-mul_right 4096 a)
