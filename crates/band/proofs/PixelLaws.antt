-- A stored pixel is a paste: bytes that are done so far, followed by what stood behind them, are so again with the
-- pixel's own bytes added. Sample by sample, and a sample byte by byte. Assumes nothing.
use mathlib.Core.Path.{◌≡◌, refl, sym, ap, ◌∙◌, subst}
use mathlib.Core.Logic.{◌⊎◌, inl, inr}
use mathlib.Core.List.{List, [], ◌∷◌, ◌++◌, append_assoc, append-nil}
use Prim.Native.Nat.{ℕ, zero, suc, ◌+◌, ◌-◌, ◌*◌, ◌/◌, ◌%◌, ◌≤◌, ◌<◌}
use native.Mathlib.Numerals.{add-one}
use native.Mathlib.Omega.{arith}
use lib.Ieee.{Float, binary32, to_bits}
use lib.ListN.{length, set, take, drop, replicate, length-append, length-drop, length-replicate, take-append-drop}
use lib.Seq.{sets, sets-eq, length-take-le, take_at, drop_at, drop-drop}
use Rattle.endian.specs.Bytes.{store_number}
use Rattle.picture.specs.Colour.{luma}
use Rattle.picture.specs.Store.{store_sample, store_rgb, narrowed, store_pixel}
use Rattle.picture.specs.declared.colour.Rgba.{Rgba}
use Rattle.picture.proofs.StoreLaws.{store_pixel_length}
use Rattle.band.specs.Band.{pixel_bytes}

-- the channels that an output can have
abbrev pub Channels : ℕ → Type 0
Channels n = (n ≡ 1) ⊎ ((n ≡ 3) ⊎ (n ≡ 4))

pub channels_pos : (n : ℕ) → Channels n → 0 < n
channels_pos n (inl e) = omega arith
channels_pos n (inr (inl e)) = omega arith
channels_pos n (inr (inr e)) = omega arith

-- ---- so far
-- the first n bytes are done, and the others are b's
pub record SoFar (b now done : List ℕ) (n : ℕ) : Type 0 where
  pub is : now ≡ done ++ drop n b
  pub long : length done ≡ n

pub so_far_none : (b : List ℕ) → SoFar b b [] 0
so_far_none b = record { is = refl; long = refl }

pub so_far_from : (b : List ℕ) (n : ℕ) → n ≤ length b → SoFar b b (take n b) n
so_far_from b n h = record { is = sym (take-append-drop n b); long = length-take-le n b h }

-- the next piece, put where the others begin
pub so_far_next : {b now done : List ℕ} {n : ℕ} → SoFar b now done n → (at : ℕ) → at ≡ n → (piece : List ℕ) (s : ℕ)
    → length piece ≡ s
    → SoFar b (take at now ++ piece ++ drop (at + s) now) (done ++ piece) (n + s)
so_far_next {b} {now} {done} {n} F at e piece s l =
    record {
      is =
          ap (λ (k : ℕ). take k now ++ piece ++ drop (k + s) now) e
          ∙ ap (λ (x : List ℕ). take n x ++ piece ++ drop (n + s) x) F.is
          ∙ ap (λ (x : List ℕ). x ++ piece ++ drop (n + s) (done ++ drop n b)) (take_at done (drop n b) n F.long)
          ∙ ap (λ (x : List ℕ). done ++ piece ++ x) (sym (drop-drop s n (done ++ drop n b))
          ∙ ap (drop s) (drop_at done (drop n b) n F.long) ∙ drop-drop s n b);
      long = length-append done piece ∙ ap (λ (k : ℕ). length done + k) l ∙ ap (λ (k : ℕ). k + s) F.long;
    }

pub so_far_length : {b now done : List ℕ} {n : ℕ} → SoFar b now done n → n ≤ length b → length now ≡ length b
so_far_length {b} {now} {done} {n} F h =
    ap length F.is ∙ length-append done (drop n b) ∙ ap (λ (k : ℕ). k + length (drop n b)) F.long
    ∙ ap (λ (k : ℕ). n + k) (length-drop n b) ∙ rest n (length b) h
  where
    rest : (n l : ℕ) → n ≤ l → n + (l - n) ≡ l
    rest n l h = omega arith

-- ---- a number's bytes
unfoldable pub digits : ℕ → ℕ → List ℕ
digits zero n = []
digits (suc k) n = n % 256 ∷ digits k (n / 256)

digits_length : (k n : ℕ) → length (digits k n) ≡ k
unfolding digits
digits_length zero n = refl
digits_length (suc k) n = ap suc (digits_length k (n / 256))

store_sets : (k : ℕ) (s : List ℕ) (at n : ℕ) → store_number k s at n ≡ sets s at (digits k n)
unfolding digits store_number
store_sets zero s at n = refl
store_sets (suc k) s at n = store_sets k (set s at (n % 256)) (at + 1) (n / 256)
    ∙ ap (λ (j : ℕ). sets (set s at (n % 256)) j (digits k (n / 256))) (add-one at)

pub store_paste : (k : ℕ) (s : List ℕ) (at n : ℕ) → at + k ≤ length s → store_number k s at n ≡ take at s ++ digits k n
    ++ drop (at + k) s
store_paste k s at n h =
    store_sets k s at n
    ∙ sets-eq (digits k n) s at (subst (λ (j : ℕ). at + j ≤ length s) (sym (digits_length k n)) h)
    ∙ ap (λ (j : ℕ). take at s ++ digits k n ++ drop (at + j) s) (digits_length k n)

-- ---- one sample
abbrev pub sample_bytes : Float → List ℕ
sample_bytes v = digits 4 (to_bits binary32 v)

sample_next : {b now done : List ℕ} {n : ℕ} → SoFar b now done n → (k : ℕ) (v : Float) → n ≡ 4 * k → n + 4 ≤ length b
    → SoFar b (store_sample now k v) (done ++ sample_bytes v) (n + 4)
sample_next {b} {now} {done} {n} F k v e h =
    subst (λ (x : List ℕ). SoFar b x (done ++ sample_bytes v) (n + 4))
    (sym (store_paste 4 now (4 * k) (to_bits binary32 v)
    (room n k (length b) (length now) e h (so_far_length F (less n (length b) h)))))
    (so_far_next F (4 * k) (sym e) (sample_bytes v) 4 (digits_length 4 (to_bits binary32 v)))
  where
    room : (n k l m : ℕ) → n ≡ 4 * k → n + 4 ≤ l → m ≡ l → 4 * k + 4 ≤ m
    room n k l m e h f = omega arith

    less : (n l : ℕ) → n + 4 ≤ l → n ≤ l
    less n l h = omega arith

-- ---- one colour, by the channels
unfoldable pub rgb_bytes : Rgba → List ℕ
rgb_bytes c = sample_bytes c.r ++ sample_bytes c.g ++ sample_bytes c.b

module _ {b now done : List ℕ} {n : ℕ} (F : SoFar b now done n) (k : ℕ) (c : Rgba) (e : n ≡ 4 * k) where
  one_next : n + 4 ≤ length b → SoFar b (store_sample now k (luma c)) (done ++ sample_bytes (luma c)) (n + 4)
  one_next h = sample_next F k (luma c) e h

  three_next : n + 12 ≤ length b → SoFar b (store_rgb now k c) (done ++ rgb_bytes c) (n + 12)
  unfolding rgb_bytes
  three_next h =
      let R : List ℕ = sample_bytes c.r in
      let G : List ℕ = sample_bytes c.g in
      let B : List ℕ = sample_bytes c.b in
      let F3 : SoFar b (store_rgb now k c) (done ++ R ++ G ++ B) (n + 4 + 4 + 4) =
      sample_next (sample_next (sample_next F k c.r e (omega arith)) (k + 1) c.g (omega arith) (omega arith))
      (k + 2) c.b (omega arith) (omega arith) in
      record {
        is = F3.is ∙ ap (λ (m : ℕ). done ++ R ++ G ++ B ++ drop m b) (twelve n)
            ∙ ap (λ (x : List ℕ). x ++ drop (n + 12) b) (grouped done R G B);
        long = ap length (sym (grouped done R G B)) ∙ F3.long ∙ twelve n;
      }
    where
      twelve : (n : ℕ) → n + 4 + 4 + 4 ≡ n + 12
      twelve n = omega arith

      grouped : (d x y z : List ℕ) → d ++ x ++ y ++ z ≡ d ++ (x ++ y ++ z)
      grouped d x y z = simp append_assoc

  four_next : n + 16 ≤ length b
      → SoFar b (store_sample (store_rgb now k c) (k + 3) c.a) (done ++ (rgb_bytes c ++ sample_bytes c.a)) (n + 16)
  four_next h =
      let A : List ℕ = sample_bytes c.a in
      let F4 : SoFar b (store_sample (store_rgb now k c) (k + 3) c.a) (done ++ rgb_bytes c ++ A) (n + 12 + 4) =
      sample_next (three_next (omega arith)) (k + 3) c.a (omega arith) (omega arith) in
      record {
        is = F4.is ∙ ap (λ (m : ℕ). done ++ rgb_bytes c ++ A ++ drop m b) (sixteen n)
            ∙ ap (λ (x : List ℕ). x ++ drop (n + 16) b) (append_assoc done (rgb_bytes c) A);
        long = ap length (sym (append_assoc done (rgb_bytes c) A)) ∙ F4.long ∙ sixteen n;
      }
    where
      sixteen : (n : ℕ) → n + 12 + 4 ≡ n + 16
      sixteen n = omega arith

-- ---- one pixel
pub pixel_length : (channels : ℕ) (c : Rgba) → length (pixel_bytes channels c) ≡ channels * 4
pixel_length channels c = store_pixel_length (replicate (channels * 4) 0) channels 0 c
    ∙ length-replicate (channels * 4) 0

pub bytes_one : (c : Rgba) → pixel_bytes 1 c ≡ sample_bytes (luma c)
unfolding store_pixel narrowed
bytes_one c = (one_next (so_far_none (replicate 4 0)) 0 c refl (omega arith)).is ∙ append-nil (sample_bytes (luma c))

pub bytes_three : (c : Rgba) → pixel_bytes 3 c ≡ rgb_bytes c
unfolding store_pixel narrowed
bytes_three c = (three_next (so_far_none (replicate 12 0)) 0 c refl (omega arith)).is ∙ append-nil (rgb_bytes c)

pub bytes_four : (c : Rgba) → pixel_bytes 4 c ≡ rgb_bytes c ++ sample_bytes c.a
unfolding store_pixel narrowed
bytes_four c = (four_next (so_far_none (replicate 16 0)) 0 c refl (omega arith)).is
    ∙ append-nil (rgb_bytes c ++ sample_bytes c.a)

pixel : (n p m : ℕ) {k : ℕ} → n ≡ p * m * 4 → m ≡ k → n ≡ 4 * (p * k)
pixel n p m w e = w ∙ ap (λ (z : ℕ). p * z * 4) e ∙ (omega arith)

room : (n m l : ℕ) {k : ℕ} → n + m * 4 ≤ l → m ≡ k → n + k * 4 ≤ l
room n m l h e = omega arith

pub pixel_next : {b now done : List ℕ} {n : ℕ} → SoFar b now done n → (channels p : ℕ) (c : Rgba) → Channels channels
    → n ≡ p * channels * 4 → n + channels * 4 ≤ length b
    → SoFar b (store_pixel now channels p c) (done ++ pixel_bytes channels c) (n + channels * 4)
pixel_next {b} {now} {done} {n} F channels p c (inl e) w h =
    subst (λ (m : ℕ). SoFar b (store_pixel now m p c) (done ++ pixel_bytes m c) (n + m * 4)) (sym e)
    (subst (λ (x : List ℕ). SoFar b (store_pixel now 1 p c) (done ++ x) (n + 4)) (sym (bytes_one c))
    (unfold store_pixel narrowed in one_next F (p * 1) c (pixel n p channels w e) (room n channels (length b) h e)))
pixel_next {b} {now} {done} {n} F channels p c (inr (inl e)) w h =
    subst (λ (m : ℕ). SoFar b (store_pixel now m p c) (done ++ pixel_bytes m c) (n + m * 4)) (sym e)
    (subst (λ (x : List ℕ). SoFar b (store_pixel now 3 p c) (done ++ x) (n + 12)) (sym (bytes_three c))
    (unfold store_pixel narrowed in three_next F (p * 3) c (pixel n p channels w e) (room n channels (length b) h e)))
pixel_next {b} {now} {done} {n} F channels p c (inr (inr e)) w h =
    subst (λ (m : ℕ). SoFar b (store_pixel now m p c) (done ++ pixel_bytes m c) (n + m * 4)) (sym e)
    (subst (λ (x : List ℕ). SoFar b (store_pixel now 4 p c) (done ++ x) (n + 16)) (sym (bytes_four c))
    (unfold store_pixel narrowed in four_next F (p * 4) c (pixel n p channels w e) (room n channels (length b) h e)))
