-- A pair's text is read as its four numbers: each goes to the place that its column's name has in the line's pair, and
-- a line more is counted. Assumes nothing.
use mathlib.Core.Path.{◌≡◌, sym, ap, ◌∙◌}
use mathlib.Core.Bool.{Bool}
use mathlib.Core.List.{List, [], ◌∷◌, ◌++◌}
use Prim.Native.Nat.{ℕ, ◌+◌, ◌-◌, ◌*◌, ◌≤◌, ◌<◌}
use native.Mathlib.Omega.{arith}
use borrow.Author.Tests.{ne_eqb, lt-ltb, le-ltb}
use native.Mathlib.Nat.{add-zero}
use lib.Dec.{lit<}
use lib.ListN.{length}
use Rattle.endian.specs.Bytes.{store_f64}
use Rattle.listing.specs.declared.word.Word.TheVariants.{Empty, Number}
use Rattle.listing.specs.declared.names.Names.{Names}
use Rattle.listing.specs.declared.reader.Reader.{Reader}
use Rattle.listing.specs.Word.{pixels}
use Rattle.listing.specs.Names.{slot_of}
use Rattle.listing.specs.Reader.{
  ReaderState,
  with_word,
  is_large,
  kept,
  take_number,
  taken,
  next_column,
  counted,
  next_line,
  read_byte,
  fed,
}
use Rattle.listing.specs.Text.{
  Numeral,
  digits,
  AllDigits,
  numeral_text,
  NumeralPair,
  Proper,
  pair_text,
  AllProper,
  pairs_text,
}
use Rattle.listing.proofs.Fed.{fed_append}
use Rattle.listing.proofs.NumeralLaws.{size_of, numeral_read}

-- between two words
abbrev pub between : Names → ℕ → ℕ → Bool → Reader
between names column lines large = record { names = names; word = Empty; column = column; lines = lines; large = large }

-- the number of a column is put where its name stands in the line's pair
abbrev pub store_at : Names → ℕ → ℕ → Numeral → List ℕ → List ℕ
store_at names lines column n bytes =
    store_f64 bytes (32 * (lines - 1) + 8 * slot_of names column) (pixels n.negative (size_of n))

-- a text up to one byte, that byte, and what follows
pub fed_over : (s : ReaderState) (a : List ℕ) (b : ℕ) (rest : List ℕ) {t : ReaderState} → fed s a ≡ t
    → fed s (a ++ b ∷ rest) ≡ fed (read_byte t b) rest
unfolding fed
fed_over s a b rest e = fed_append s a (b ∷ rest) ∙ ap (λ (u : ReaderState). fed (read_byte u b) rest) e

module _ (names : Names) (lines : ℕ) (some : 0 < lines) (room : lines ≤ 64) where
  -- a number is taken
  number_taken : (column : ℕ) (large : Bool) (bytes : List ℕ) (n : Numeral)
      → take_number (with_word (between names column lines large) (Number n.negative (size_of n))) n.negative
      (size_of n) bytes ≡ (between names column lines (is_large large (size_of n)), store_at names lines column n bytes)
  unfolding take_number kept
  number_taken column large bytes n =
      rw (ne_eqb lines 0 (λ e. omega arith), le-ltb lines 1 (omega arith), le-ltb 64 lines room)

  -- a number and the space after it
  cell : (column : ℕ) (large : Bool) (bytes : List ℕ) (n : Numeral) (rest : List ℕ) → column < 3 → AllDigits (digits n)
      → fed (between names column lines large, bytes) (numeral_text n ++ 32 ∷ rest) ≡ fed
      (between names (column + 1) lines (is_large large (size_of n)), store_at names lines column n bytes) rest
  unfolding read_byte taken next_column
  cell column large bytes n rest h d =
      fed_over _ (numeral_text n) 32 rest (numeral_read (between names column lines large) bytes n d)
      ∙ rw (number_taken column large bytes n, lt-ltb column 3 h)

  -- the last number and the line feed
  last_cell : (large : Bool) (bytes : List ℕ) (n : Numeral) → AllDigits (digits n)
      → fed (between names 3 lines large, bytes) (numeral_text n ++ 10 ∷ [])
      ≡ (between names 0 (lines + 1) (is_large large (size_of n)), store_at names lines 3 n bytes)
  unfolding read_byte taken next_line counted fed
  last_cell large bytes n d =
      fed_over _ (numeral_text n) 10 [] (numeral_read (between names 3 lines large) bytes n d)
      ∙ rw (number_taken 3 large bytes n, lt-ltb lines 66 (omega arith))

-- what a pair changes
abbrev pub large_after : Bool → NumeralPair → Bool
large_after large p = is_large
    (is_large (is_large (is_large large (size_of p.col0)) (size_of p.col1)) (size_of p.col2)) (size_of p.col3)

abbrev pub bytes_after : Names → ℕ → List ℕ → NumeralPair → List ℕ
bytes_after names lines bytes p =
    store_at names lines 3 p.col3
    (store_at names lines 2 p.col2 (store_at names lines 1 p.col1 (store_at names lines 0 p.col0 bytes)))

pub pair_read : (names : Names) (lines : ℕ) (large : Bool) (bytes : List ℕ) (p : NumeralPair) → 0 < lines → lines ≤ 64
    → Proper p → fed (between names 0 lines large, bytes) (pair_text p)
    ≡ (between names 0 (lines + 1) (large_after large p), bytes_after names lines bytes p)
unfolding pair_text
pair_read names lines large bytes p some room h =
    cell names lines some room 0 large bytes p.col0 _ (lit< tt) h.0
    ∙ cell names lines some room 1 _ _ p.col1 _ (lit< tt) h.1.0
    ∙ cell names lines some room 2 _ _ p.col2 _ (lit< tt) h.1.1.0
    ∙ last_cell names lines some room _ _ p.col3 h.1.1.1

-- what pairs change
unfoldable pub large_all : Bool → List NumeralPair → Bool
large_all large [] = large
large_all large (p ∷ ps) = large_all (large_after large p) ps

unfoldable pub bytes_all : Names → ℕ → List ℕ → List NumeralPair → List ℕ
bytes_all names lines bytes [] = bytes
bytes_all names lines bytes (p ∷ ps) = bytes_all names (lines + 1) (bytes_after names lines bytes p) ps

pub pairs_read : (names : Names) (lines : ℕ) (large : Bool) (bytes : List ℕ) (ps : List NumeralPair) → 0 < lines
    → lines + length ps ≤ 65 → AllProper ps
    → fed (between names 0 lines large, bytes) (pairs_text ps)
    ≡ (between names 0 (lines + length ps) (large_all large ps), bytes_all names lines bytes ps)
unfolding pairs_text large_all bytes_all fed
pairs_read names lines large bytes [] some room h =
    ap (λ (k : ℕ). (between names 0 k large, bytes)) (sym (add-zero lines))
pairs_read names lines large bytes (p ∷ ps) some room h =
    let fits : lines + 1 + length ps ≤ 65 = omega (arith, room) in
    let count : lines + 1 + length ps ≡ lines + length (p ∷ ps) = omega arith in
    fed_append _ (pair_text p) (pairs_text ps)
    ∙ ap (λ (s : ReaderState). fed s (pairs_text ps)) (pair_read names lines large bytes p some (omega arith) h.0)
    ∙ pairs_read names (lines + 1) (large_after large p) (bytes_after names lines bytes p) ps (omega arith) fits h.1
    ∙ ap (λ (k : ℕ). (
      between names 0 k (large_all (large_after large p) ps),
      bytes_all names (lines + 1) (bytes_after names lines bytes p) ps,
    )) count
