-- Texts put into a buffer: each loop's turn puts one piece of what is left, and a text in two parts is put part by
-- part. What is put from the front on is the text and then what stood past it. Assumes nothing.
use mathlib.Core.Path.{◌≡◌, refl, sym, ap, ◌∙◌}
use mathlib.Core.List.{List, [], ◌∷◌, ◌++◌}
use Prim.Native.Nat.{ℕ, zero, suc, ◌+◌, ◌-◌, ◌*◌, ◌/◌, ◌%◌, ◌^◌, ◌≤◌, ◌<◌}
use native.Mathlib.Nat.{add_assoc, add-zero}
use native.Mathlib.Numerals.{add-one}
use native.Mathlib.Omega.{arith}
use lib.ListN.{length, get_or, set, drop, length-set, length-append, drop_of_length-le}
use borrow.Rule.Slice.PartMut.{put_mid}
use Rattle.std.proofs.lemmas.List.Edits.{paste_none, paste_more}
use Rattle.std.proofs.lemmas.Slice.{put_mid-paste}
use lib.Seq.{drop-cons, paste}
use lib.Ieee.{Float, nan, binary64, to_bits}
use Rattle.listing.specs.Print.{put_text, hex_digit, hex_text, line_text, lines_text, listing_text, refused_text}

-- ---- a text, byte by byte
store_next_law : (s : List ℕ) (at : ℕ) (text : List ℕ) (k : ℕ) → k < length text
    → put_text s (at + k) (drop k text) ≡ put_text (set s (at + k) (get_or text k 0)) (at + (k + 1)) (drop (k + 1) text)
unfolding put_text
store_next_law s at text k h = rw (← add_assoc at k 1, add-one k, drop-cons text k 0 h)

store_end : (s : List ℕ) (at : ℕ) (text : List ℕ) (k : ℕ) → length text ≤ k → put_text s at (drop k text) ≡ s
unfolding put_text
store_end s at text k h = rw (drop_of_length-le text h)

-- a whole text that is copied
module _ (s : List ℕ) (at : ℕ) (text : List ℕ) (room : at + length text ≤ length s) where
  pasted : (k : ℕ) → k ≤ length text → put_text (paste s at text k) (at + k) (drop k text) ≡ put_text s at text
  pasted zero h = rw (← paste_none s at text, add-zero at)
  pasted (suc k) h =
      let more : set (paste s at text k) (at + k) (get_or text k 0) ≡ paste s at text (k + 1) =
      paste_more s at text k 0 (omega arith) (omega arith) in
      rw (← add-one k)
      (ap (λ (t : List ℕ). put_text t (at + (k + 1)) (drop (k + 1) text)) (sym more)
      ∙ sym (store_next_law (paste s at text k) at text k (omega arith))
      ∙ pasted k (omega arith))

  pub copied : (n : ℕ) (here : List ℕ) → n ≡ length text → here ≡ text → put_mid at n s here ≡ put_text s at text
  copied n here e g =
      put_mid-paste at n s here text n g refl e
      ∙ ap (paste s at text) e
      ∙ sym (store_end (paste s at text (length text)) (at + length text) text (length text) (omega arith))
      ∙ pasted (length text) (omega arith)

pub store_append : (s : List ℕ) (at : ℕ) (a b : List ℕ)
    → put_text s at (a ++ b) ≡ put_text (put_text s at a) (at + length a) b
unfolding put_text
store_append s at [] b = ap (λ (k : ℕ). put_text s k b) (sym (add-zero at))
store_append s at (x ∷ a) b =
    store_append (set s at x) (at + 1) a b
    ∙ ap (λ (k : ℕ). put_text (put_text (set s at x) (at + 1) a) k b) (omega arith)

-- ---- digits, one by one
fewer : (k : ℕ) → k < 16 → 16 - k ≡ suc (15 - k)
fewer k h = omega arith

left : (k : ℕ) → k < 16 → 16 - (k + 1) ≡ 15 - k
left k h = omega arith

pub hex_next : (s : List ℕ) (at n k : ℕ) → k < 16
    → put_text s (at + k) (hex_text (16 - k) n) ≡ put_text (set s (at + k) (hex_digit (n / 2 ^ (4 * (15 - k)) % 16)))
    (at + (k + 1)) (hex_text (16 - (k + 1)) n)
unfolding put_text hex_text
hex_next s at n k h = rw (← add_assoc at k 1, fewer k h, left k h)

pub hex_end : (s : List ℕ) (at n k : ℕ) → 16 ≤ k → put_text s at (hex_text (16 - k) n) ≡ s
unfolding put_text hex_text
hex_end s at n k h =
    let e : 16 - k ≡ 0 = omega arith in
    rw e

-- ---- a coefficient's line, and the lines, one by one
hex_length : (k n : ℕ) → length (hex_text k n) ≡ k
unfolding hex_text
hex_length zero n = refl
hex_length (suc k) n = ap suc (hex_length k n)

ends : (at k : ℕ) → k ≡ 16 → at + 1 + 1 + k ≡ at + 18
ends at k h = omega arith

pub store_line : (s : List ℕ) (at name : ℕ) (x : Float)
    → set (put_text (set (set s at name) (at + 1) 32) (at + 2) (hex_text 16 (to_bits binary64 x))) (at + 18) 10 ≡ put_text s
    at (line_text name x)
unfolding put_text
store_line s at name x =
    let t = set (set s at name) (at + 1) 32 in
    let digits = hex_text 16 (to_bits binary64 x) in
    sym
    (store_append t (at + 1 + 1) digits (10 ∷ [])
    ∙ ap (λ (k : ℕ). set (put_text t (at + 1 + 1) digits) k 10)
    (ends at (length digits) (hex_length 16 (to_bits binary64 x)))
    ∙ ap (λ (k : ℕ). set (put_text t k digits) (at + 18) 10) (add_assoc at 1 1))

line_length : (name : ℕ) (x : Float) → length (line_text name x) ≡ 19
line_length name x = ap (λ (k : ℕ). suc (suc k)) (length-append (hex_text 16 (to_bits binary64 x)) (10 ∷ [])
    ∙ ap (λ (k : ℕ). k + 1) (hex_length 16 (to_bits binary64 x)))

after_line : (at k l : ℕ) → l ≡ 19 → at + 19 * k + l ≡ at + 19 * (k + 1)
after_line at k l h = omega arith

five : (k : ℕ) → k < 6 → 6 - k ≡ suc (5 - k)
five k h = omega arith

fewer_lines : (k : ℕ) → k < 6 → 6 - (k + 1) ≡ 5 - k
fewer_lines k h = omega arith

pub lines_next : (s : List ℕ) (at : ℕ) (cs : List Float) (k : ℕ) → k < 6
    → put_text s (at + 19 * k) (lines_text k (6 - k) cs) ≡ put_text
    (put_text s (at + 19 * k) (line_text (97 + k) (get_or cs k nan)))
    (at + 19 * (k + 1)) (lines_text (k + 1) (6 - (k + 1)) cs)
unfolding lines_text
lines_next s at cs k h =
    let text = line_text (97 + k) (get_or cs k nan) in
    rw (five k h, fewer_lines k h)
    (store_append s (at + 19 * k) text (lines_text (k + 1) (5 - k) cs)
    ∙ ap (λ (j : ℕ). put_text (put_text s (at + 19 * k) text) j (lines_text (k + 1) (5 - k) cs))
    (after_line at k (length text) (line_length (97 + k) (get_or cs k nan))))

pub lines_end : (s : List ℕ) (at : ℕ) (cs : List Float) (k : ℕ) → 6 ≤ k → put_text s at (lines_text k (6 - k) cs) ≡ s
unfolding put_text lines_text
lines_end s at cs k h =
    let e : 6 - k ≡ 0 = omega arith in
    rw e

-- ---- how long the texts are
pub refused_length : (n : ℕ) → length (refused_text n) ≡ 10
unfolding refused_text
refused_length n = refl

lines_length : (k n : ℕ) (cs : List Float) → length (lines_text k n cs) ≡ 19 * n
unfolding lines_text
lines_length k zero cs = refl
lines_length k (suc n) cs =
    let line = line_text (97 + k) (get_or cs k nan) in
    length-append line (lines_text (k + 1) n cs)
    ∙ more (length line) _ n (line_length (97 + k) (get_or cs k nan)) (lines_length (k + 1) n cs)
  where
    more : (l m n : ℕ) → l ≡ 19 → m ≡ 19 * n → l + m ≡ 19 * suc n
    more l m n a b = omega arith

pub listing_length : (cs : List Float) → length (listing_text cs) ≡ 124
unfolding listing_text
listing_length cs = ap (λ (k : ℕ). suc (suc (suc (suc (suc (suc (suc (suc (suc (suc k)))))))))) (lines_length 0 6 cs)

-- a buffer keeps its length
pub store_length : (s : List ℕ) (at : ℕ) (text : List ℕ) → length (put_text s at text) ≡ length s
unfolding put_text
store_length s at [] = refl
store_length s at (b ∷ text) = store_length (set s at b) (at + 1) text ∙ length-set s at b
