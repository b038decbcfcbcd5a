-- A number's text is read as that number: each digit grows it, and one that has passed the limit stays above it.
-- Assumes nothing.
use mathlib.Core.Path.{◌≡◌, refl, ap, ◌∙◌}
use mathlib.Core.Logic.{inl, inr}
use mathlib.Core.Bool.{Bool, true, false}
use mathlib.Core.List.{List, [], ◌∷◌}
use Rattle.std.specs.Prelude.{None}
use Prim.Native.Nat.{ℕ, ◌+◌, ◌-◌, ◌*◌, ◌≤◌, ◌<◌}
use native.Mathlib.Omega.{arith}
use borrow.Author.Tests.{ne_eqb, lt-ltb, le-ltb}
use Rattle.exact.proofs.Naturals.{lt_or_le}
use Rattle.listing.specs.declared.word.Word.{Word}
use Rattle.listing.specs.declared.word.Word.TheVariants.{Empty, Minus, Number}
use Rattle.listing.specs.declared.reader.Reader.{Reader}
use Rattle.listing.specs.Word.{largest_number, name_of, with_digit, digit, first_byte, next}
use Rattle.listing.specs.Reader.{ReaderState, with_word, read_byte, fed}
use Rattle.listing.specs.Text.{Numeral, digits, AllDigits, continued, magnitude, digits_text, numeral_text}

-- ---- how a size that is kept stands for a magnitude: it is the magnitude, or both are above the limit

pub record Held (m size : ℕ) : Type 0 where
  pub exact : m ≤ largest_number → size ≡ m
  pub above : largest_number < m → largest_number < size

grown_small : (size d : ℕ) → size ≤ 6710886 → with_digit size d ≡ 10 * size + d
unfolding with_digit
grown_small size d h = rw (le-ltb 6710886 size h)

grown_large : (size d : ℕ) → 6710886 < size → with_digit size d ≡ 67108865
unfolding with_digit
grown_large size d h = rw (lt-ltb 6710886 size h)

held_digit : (m size d : ℕ) → d < 10 → Held m size → Held (10 * m + d) (with_digit size d)
held_digit m size d h r = elim (lt_or_le 6710886 size) [
  | inl large ↦ record {
    exact = λ l. let e : size ≡ m = r.exact (omega arith) in omega (arith, grown_large size d large);
    above = λ l. omega (arith, grown_large size d large);
  }
  | inr small ↦ record {
    exact = λ l. let e : size ≡ m = r.exact (omega arith) in omega (arith, grown_small size d small);
    above = λ l. elim (lt_or_le largest_number m) [
      | inl over ↦ omega (arith, r.above over)
      | inr within ↦ omega (arith, r.exact within, grown_small size d small)
    ];
  }
]

-- the size that further digits make
unfoldable pub grown_by : ℕ → List ℕ → ℕ
grown_by size [] = size
grown_by size (d ∷ ds) = grown_by (with_digit size d) ds

held_digits : (m size : ℕ) (ds : List ℕ) → AllDigits ds → Held m size → Held (continued m ds) (grown_by size ds)
unfolding continued grown_by
held_digits m size [] h r = r
held_digits m size (d ∷ ds) h r = held_digits (10 * m + d) (with_digit size d) ds h.1 (held_digit m size d h.0 r)

-- the size that a numeral's text is read as
abbrev pub size_of : Numeral → ℕ
size_of n = grown_by 0 (digits n)

pub held : (n : Numeral) → AllDigits (digits n) → Held (magnitude n) (size_of n)
held n h = held_digits 0 0 (digits n) h (record { exact = λ l. refl; above = λ l. l })

-- ---- the bytes

digit_next : (negative : Bool) (size d : ℕ) → d < 10 → digit negative size (48 + d) ≡ Number negative (with_digit size d)
unfolding digit
digit_next negative size d h =
    let e : 48 + d - 48 ≡ d = omega arith in
    rw (le-ltb (48 + d) 48 (omega arith), le-ltb 57 (48 + d) (omega arith), e)

not_name : (d : ℕ) → d < 10 → name_of (48 + d) ≡ None
unfolding name_of
not_name d h =
    rw (
      ne_eqb (48 + d) 117 (λ e. omega arith),
      ne_eqb (48 + d) 118 (λ e. omega arith),
      ne_eqb (48 + d) 120 (λ e. omega arith),
      ne_eqb (48 + d) 121 (λ e. omega arith),
    )

digit_first : (d : ℕ) → d < 10 → first_byte (48 + d) ≡ Number false (with_digit 0 d)
unfolding first_byte
digit_first d h = rw (ne_eqb (48 + d) 45 (λ e. omega arith), not_name d h) (digit_next false 0 d h)

-- a byte that is neither a space nor a line feed goes to the word
in_word : (s : Reader) (bytes : List ℕ) (w : Word) (b : ℕ) → (b ≡ 10 → ⊥) → (b ≡ 32 → ⊥)
    → read_byte (with_word s w, bytes) b ≡ (with_word s (next w b), bytes)
unfolding read_byte
in_word s bytes w b h g = rw (ne_eqb b 10 h, ne_eqb b 32 g)

module _ (s : Reader) (bytes : List ℕ) where
  -- with the word w
  abbrev at_word : Word → ReaderState
  at_word w = (with_word s w, bytes)

  digits_read : (negative : Bool) (size : ℕ) (ds : List ℕ) → AllDigits ds
      → fed (at_word (Number negative size)) (digits_text ds) ≡ at_word (Number negative (grown_by size ds))
  unfolding fed grown_by next
  digits_read negative size [] h = refl
  digits_read negative size (d ∷ ds) h =
      ap (λ (t : ReaderState). fed t (digits_text ds))
      (in_word s bytes (Number negative size) (48 + d) (λ e. omega arith) (λ e. omega arith)
      ∙ ap at_word (digit_next negative size d h.0))
      ∙ digits_read negative (with_digit size d) ds h.1

  numeral_at : (negative : Bool) (d : ℕ) (ds : List ℕ) → AllDigits (d ∷ ds)
      → fed (at_word Empty) (numeral_text (record { negative = negative; first = d; rest = ds })) ≡ at_word
      (Number negative (grown_by 0 (d ∷ ds)))
  unfolding fed grown_by next numeral_text read_byte first_byte
  numeral_at false d ds h =
      ap (λ (t : ReaderState). fed t (digits_text ds))
      (in_word s bytes Empty (48 + d) (λ e. omega arith) (λ e. omega arith) ∙ ap at_word (digit_first d h.0))
      ∙ digits_read false (with_digit 0 d) ds h.1
  numeral_at true d ds h =
      ap (λ (t : ReaderState). fed t (digits_text ds))
      (in_word s bytes Minus (48 + d) (λ e. omega arith) (λ e. omega arith) ∙ ap at_word (digit_next true 0 d h.0))
      ∙ digits_read true (with_digit 0 d) ds h.1

  -- a numeral at the start of a word
  pub numeral_read : (n : Numeral) → AllDigits (digits n)
      → fed (with_word s Empty, bytes) (numeral_text n) ≡ (with_word s (Number n.negative (size_of n)), bytes)
  numeral_read n h = numeral_at n.negative n.first n.rest h
