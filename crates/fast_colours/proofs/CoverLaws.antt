-- What is put over is gone: a number put at a pixel where another stood leaves no trace of it. So a band that differs
-- from a clean one in the next pixel's first sample alone is clean again with the next pixel. Provides: `store_over`;
-- `covered_start`, `covered_next`, `covered_last` (the loop over pixels). Assumes nothing.
use mathlib.Core.Path.{◌≡◌, refl, ap, ◌∙◌, subst}
use mathlib.Core.Logic.{inl, inr}
use mathlib.Core.List.{List, ◌++◌}
use Prim.Native.Nat.{ℕ, zero, suc, ◌+◌, ◌*◌, ◌/◌, ◌%◌, ◌≤◌, ◌<◌, zero-le}
use native.Mathlib.Omega.{arith}
use lib.Ieee.{binary32, to_bits}
use lib.ListN.{length, set, take, replicate, length-append, length-replicate}
use lib.Seq.{set-set, length-take-le}
use Rattle.endian.specs.Bytes.{store_number}
use Rattle.endian.proofs.BytesLaws.{store_length, store_comm}
use Rattle.picture.specs.declared.colour.Rgba.{Rgba}
use Rattle.picture.specs.Store.{store_sample, store_rgb, narrowed, store_pixel}
use Rattle.picture.proofs.StoreLaws.{store_pixel_length}
use Rattle.band.specs.Band.{pixel_bytes, put_pixels}
use Rattle.band.specs.Joined.{joined, totalled}
use Rattle.band.proofs.JoinedLaws.{joined_length, totalled_most}
use Rattle.band.proofs.RowLaws.{RowHolds, row_start, row_next, row_done}
use Rattle.fast_colours.specs.Broad.{Covered}

pub store_over : (k : ℕ) (s : List ℕ) (at n m : ℕ) → store_number k (store_number k s at n) at m ≡ store_number k s at m
unfolding store_number
store_over zero s at n m = refl
store_over (suc k) s at n m =
    ap (λ (t : List ℕ). store_number k t (at + 1) (m / 256))
    (store_comm 1 k (set s at (n % 256)) at m (at + 1) (n / 256) (inr (omega arith))
    ∙ ap (λ (t : List ℕ). store_number k t (at + 1) (n / 256)) (set-set s at (n % 256) (m % 256)))
    ∙ store_over k (set s at (m % 256)) (at + 1) (n / 256) (m / 256)

-- the pixel of three channels numbered p puts over its first sample
rgb_covered : {now clean : List ℕ} {k : ℕ} (c : Rgba) → Covered now clean k → store_rgb now k c ≡ store_rgb clean k c
rgb_covered {now} {clean} {k} c C =
    ap (λ (t : List ℕ). store_sample (store_sample t (k + 1) c.g) (k + 2) c.b) (C.same c.r)

-- ---- the loop over pixels: m of them, from the pixel numbered `pixel` on
-- after i pixels: a clean band with them, from which this one differs in the next pixel's first sample at most
pub record Overlaid (m pixel : ℕ) (f : ℕ → Rgba) (b now : List ℕ) (i : ℕ) : Type 0 where
  pub clean : List ℕ
  pub holds : RowHolds 3 m pixel f (λ (k : ℕ). 0) b clean 0 i
  pub covered : Covered now clean ((pixel + i) * 3)
  pub long : length now ≡ length b

module _ {m pixel : ℕ} {f : ℕ → Rgba} {b : List ℕ} (room : (pixel + m) * 3 * 4 ≤ length b) where
  pub covered_start : Overlaid m pixel f b b 0
  covered_start = record {
    clean = b;
    holds = row_start room (λ k. omega arith);
    covered = record { same = λ v. refl };
    long = refl;
  }

  pub covered_next : {now after : List ℕ} {i : ℕ} → Overlaid m pixel f b now i → i < m → (c : Rgba)
      → store_rgb now ((pixel + i) * 3) c ≡ store_rgb now ((pixel + i) * 3) (f i)
      → after ≡ store_sample (store_rgb now ((pixel + i) * 3) c) ((pixel + i) * 3 + 3) c.a
      → Overlaid m pixel f b after (i + 1)
  unfolding store_pixel narrowed
  covered_next {now} {after} {i} H h c own put =
      record {
        clean = store_pixel H.clean 3 (pixel + i) (f i);
        holds = row_next room H.holds (inr (inl refl)) h refl refl;
        covered = record {
          same = λ w. ap (λ (t : List ℕ). store_sample t ((pixel + (i + 1)) * 3) w) whole
              ∙ store_over 4 (store_rgb H.clean ((pixel + i) * 3) (f i)) (4 * ((pixel + (i + 1)) * 3))
              (to_bits binary32 c.a) (to_bits binary32 w);
        };
        long = ap length e ∙ store_length 4 (store_rgb now ((pixel + i) * 3) (f i)) (4 * ((pixel + i) * 3 + 3))
            (to_bits binary32 c.a) ∙ rgb_long ∙ H.long;
      }
    where
      e : after ≡ store_sample (store_rgb now ((pixel + i) * 3) (f i)) ((pixel + i) * 3 + 3) c.a
      e = put ∙ ap (λ (t : List ℕ). store_sample t ((pixel + i) * 3 + 3) c.a) own

      place_next : (p i : ℕ) → (p + i) * 3 + 3 ≡ (p + (i + 1)) * 3
      place_next p i = omega arith

      whole : after ≡ store_sample (store_rgb H.clean ((pixel + i) * 3) (f i)) ((pixel + (i + 1)) * 3) c.a
      whole = e ∙ ap (λ (k : ℕ). store_sample (store_rgb now ((pixel + i) * 3) (f i)) k c.a) (place_next pixel i)
          ∙ ap (λ (t : List ℕ). store_sample t ((pixel + (i + 1)) * 3) c.a) (rgb_covered (f i) H.covered)

      rgb_long : length (store_rgb now ((pixel + i) * 3) (f i)) ≡ length now
      rgb_long = store_length 4 _ _ _ ∙ store_length 4 _ _ _ ∙ store_length 4 _ _ _

  pub covered_last : {now : List ℕ} {i : ℕ} → Overlaid m pixel f b now i → i ≡ m
      → Covered now (put_pixels 3 f m pixel b) ((pixel + m) * 3)
  covered_last {now} {i} H e =
      subst (λ (c : List ℕ). Covered now c ((pixel + m) * 3)) (row_done room H.holds e)
      (subst (λ (k : ℕ). Covered now H.clean ((pixel + k) * 3)) e H.covered)

-- ---- the last pixel
pub covered_done : (m pixel : ℕ) (f : ℕ → Rgba) (b : List ℕ) → (pixel + (m + 1)) * 3 * 4 ≤ length b
    → {now after : List ℕ} → Covered now (put_pixels 3 f m pixel b) ((pixel + m) * 3)
    → after ≡ store_pixel now 3 (pixel + m) (f m)
    → after ≡ put_pixels 3 f (m + 1) pixel b
unfolding store_pixel narrowed
covered_done m pixel f b room C e =
    row_done room (row_next room holds (inr (inl refl)) (omega arith) refl (e ∙ rgb_covered (f m) C)) refl
  where
    pixel_long : (c : Rgba) → length (pixel_bytes 3 c) ≡ 12
    pixel_long c = store_pixel_length (replicate 12 0) 3 0 c ∙ length-replicate {A = ℕ} 12 0

    long : length (take (pixel * 3 * 4) b ++ joined (λ (k : ℕ). pixel_bytes 3 (f k)) m) ≡ (pixel + m) * 3 * 4
    long =
        length-append (take (pixel * 3 * 4) b) (joined (λ (k : ℕ). pixel_bytes 3 (f k)) m)
        ∙ ap (λ (n : ℕ). n + length (joined (λ (k : ℕ). pixel_bytes 3 (f k)) m))
        (length-take-le (pixel * 3 * 4) b (before pixel m (length b) room))
        ∙ ap (λ (n : ℕ). pixel * 3 * 4 + n) (joined_length (λ (k : ℕ). pixel_bytes 3 (f k)) 12 (λ k. pixel_long (f k)) m)
        ∙ summed pixel m
      where
        before : (p m l : ℕ) → (p + (m + 1)) * 3 * 4 ≤ l → p * 3 * 4 ≤ l
        before p m l h = omega arith

        summed : (p m : ℕ) → p * 3 * 4 + m * 12 ≡ (p + m) * 3 * 4
        summed p m = omega arith

    holds : RowHolds 3 (m + 1) pixel f (λ (k : ℕ). 0) b (put_pixels 3 f m pixel b) 0 m
    holds = record {
      far = record { is = refl; long = long };
      count = none;
      ones = λ k. omega arith;
      few = zero-le;
      most = omega arith;
    }
      where
        none : 0 ≡ totalled (λ (k : ℕ). 0) m
        none = nothing m (totalled_most (λ (k : ℕ). 0) 0 (λ k. omega arith) m)
          where
            nothing : (m : ℕ) {r : ℕ} → r ≤ m * 0 → 0 ≡ r
            nothing m l = omega arith
