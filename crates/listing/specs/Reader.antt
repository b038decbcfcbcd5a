-- The text, a byte at a time: a line of names, then a pair a line, four words to a line parted by one space (32) each
-- and ended by a line feed (10). A state is the reader's record and the bytes of the arguments, f64 by f64 in the order
-- u, v, x, y for each pair. There is no longest text. Specification 12.1. Assumes nothing.
use Rattle.std.specs.Prelude.{ℕ, ◌+◌, ◌-◌, ◌*◌, Bool, true, false, not, ◌||◌, cond, List, [], ◌∷◌, eqb, ltb, Float, Option, Some, None, Result, Ok, Err}
use Rattle.exact.specs.Limits.{most_pairs}
use Rattle.endian.specs.Bytes.{store_f64}
use Rattle.listing.specs.declared.word.Word.{Word}
use Rattle.listing.specs.declared.word.Word.TheVariants.{Empty, Minus, Name, Number, Wrong}
use Rattle.listing.specs.declared.reader.Reader.{Reader}
use Rattle.listing.specs.declared.names.Coordinate.{Coordinate}
use Rattle.refusals.specs.declared.Refusal.{Refusal}
use Rattle.refusals.specs.declared.Refusal.TheVariants as Refused
use Rattle.listing.specs.Word.{largest_number, next, pixels}
use Rattle.listing.specs.Names.{no_names, column_of, with_name, slot_of}

abbrev pub ReaderState : Type 0
ReaderState = Reader × List ℕ

abbrev pub start_reader : Reader
start_reader = record { names = no_names; word = Empty; column = 0; lines = 0; large = false }

abbrev pub with_word : Reader → Word → Reader
with_word s w = record { names = s.names; word = w; column = s.column; lines = s.lines; large = s.large }

-- a fault of form, for good
abbrev pub fault : Reader → Reader
fault s = with_word s Wrong

-- ---- the end of a word

-- the one where there is no column yet, else the other
abbrev pub once : Option ℕ → Reader → Reader → Reader
once None s t = s
once (Some k) s t = t

-- a name is taken on the first line, once
unfoldable pub take_name : Reader → Coordinate → Reader
take_name s c =
    cond (eqb s.lines 0)
    (once (column_of s.names c)
    (record {
      names = with_name s.names c s.column;
      word = Empty;
      column = s.column;
      lines = s.lines;
      large = s.large;
    })
    (fault s))
    (fault s)

unfoldable pub is_large : Bool → ℕ → Bool
is_large large size = cond (ltb largest_number size) true large

-- the first byte of the argument in the reader's column: a pair has four arguments of 8 bytes, and the first stands on
-- line 1
abbrev pub place_of : Reader → ℕ
place_of s = 32 * (s.lines - 1) + 8 * slot_of s.names s.column

-- an argument is kept on lines 1 to 64; no text with more is accepted
unfoldable pub kept : Reader → Float → List ℕ → List ℕ
kept s x bytes = cond (ltb s.lines 1) bytes (cond (ltb most_pairs s.lines) bytes (store_f64 bytes (place_of s) x))

-- a number is taken on every line but the first
unfoldable pub take_number : Reader → Bool → ℕ → List ℕ → ReaderState
take_number s negative size bytes =
    cond (eqb s.lines 0) (fault s, bytes) (
      record { names = s.names; word = Empty; column = s.column; lines = s.lines; large = is_large s.large size },
      kept s (pixels negative size) bytes,
    )

unfoldable pub taken : Word → Reader → List ℕ → ReaderState
taken Empty s bytes = (fault s, bytes)
taken Minus s bytes = (fault s, bytes)
taken (Name c) s bytes = (take_name s c, bytes)
taken (Number negative size) s bytes = take_number s negative size bytes
taken Wrong s bytes = (s, bytes)

abbrev pub take_word : Reader → List ℕ → ReaderState
take_word s bytes = taken s.word s bytes

-- ---- what comes after it

-- after a space: there is one more column
unfoldable pub next_column : Reader → Reader
next_column s =
    cond (ltb s.column 3)
    (record { names = s.names; word = s.word; column = s.column + 1; lines = s.lines; large = s.large })
    (fault s)

-- lines are counted up to 66, which is one too many
unfoldable pub counted : ℕ → ℕ
counted lines = cond (ltb lines 66) (lines + 1) 66

-- after a line feed: that was the last column
unfoldable pub next_line : Reader → Reader
next_line s =
    cond (eqb s.column 3)
    (record { names = s.names; word = s.word; column = 0; lines = counted s.lines; large = s.large })
    (fault s)

abbrev pub on_reader : (Reader → Reader) → ReaderState → ReaderState
on_reader f s = (f s.0, s.1)

-- ---- one byte, and all of them

unfoldable pub read_byte : ReaderState → ℕ → ReaderState
read_byte s b =
    cond (eqb b 10) (on_reader next_line (take_word s.0 s.1))
    (cond (eqb b 32) (on_reader next_column (take_word s.0 s.1))
    (with_word s.0 (next s.0.word b), s.1))

unfoldable pub fed : ReaderState → List ℕ → ReaderState
fed s [] = s
fed s (b ∷ bytes) = fed (read_byte s b) bytes

-- ---- the end of the text: after a line feed, with one pair to 64

unfoldable pub is_empty : Word → Bool
is_empty Empty = true
is_empty Minus = false
is_empty (Name c) = false
is_empty (Number negative size) = false
is_empty Wrong = false

unfoldable pub bad_form : Reader → Bool
bad_form s = not (is_empty s.word) || not (eqb s.column 0) || ltb s.lines 2 || ltb 65 s.lines

-- the refusals of specification 2: 4 for the form, 5 for a number; else how many bytes of arguments there are
unfoldable pub finish : Reader → Result ℕ Refusal
finish s = cond (bad_form s) (Err Refused.Count) (cond s.large (Err Refused.Number) (Ok (32 * (s.lines - 1))))
