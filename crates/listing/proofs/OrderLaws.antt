-- The names line is read as the order that it says, where each name finds its column free and each column then gives
-- its name back. Assumes nothing.
use mathlib.Core.Path.{◌≡◌, refl, ap, ◌∙◌}
use mathlib.Core.Bool.{Bool, false, ◌&&◌}
use mathlib.Core.List.{List, [], ◌∷◌}
use Prim.Native.Nat.{ℕ, zero, suc, ◌+◌, ◌<◌}
use native.Mathlib.Omega.{arith}
use borrow.Author.Tests.{lt-ltb}
use Rattle.std.specs.Prelude.{None, is_none}
use lib.Dec.{eqb, lit<}
use Rattle.listing.specs.declared.word.Word.TheVariants.{Name}
use Rattle.listing.specs.declared.names.Names.{Names}
use Rattle.listing.specs.Word.{name_of, first_byte, next}
use Rattle.listing.specs.Names.{no_names, column_of, with_name, slot_of}
use Rattle.listing.specs.Reader.{
  ReaderState,
  with_word,
  take_name,
  taken,
  next_column,
  counted,
  next_line,
  read_byte,
  fed,
}
use Rattle.listing.specs.Text.{Order, letter, order_text}
use Rattle.listing.proofs.NamesLaws.{named}
use Rattle.listing.proofs.PairLaws.{between}

-- ---- one name

letter_read : (names : Names) (column k : ℕ) (bytes : List ℕ) → k < 4
    → read_byte (between names column 0 false, bytes) (letter k)
    ≡ (with_word (between names column 0 false) (Name (named k)), bytes)
unfolding read_byte next first_byte name_of letter
letter_read names column zero bytes h = refl
letter_read names column (suc zero) bytes h = refl
letter_read names column (suc (suc zero)) bytes h = refl
letter_read names column (suc (suc (suc zero))) bytes h = refl
letter_read names column (suc (suc (suc (suc k)))) bytes h = absurd (omega (arith, h))

-- a name and the space after it, where its column is free
name_cell : (names : Names) (column k : ℕ) (bytes rest : List ℕ) → k < 4 → column < 3 → column_of names (named k) ≡ None
    → fed (between names column 0 false, bytes) (letter k ∷ (32 ∷ rest)) ≡ fed
    (between (with_name names (named k) column) (column + 1) 0 false, bytes) rest
unfolding fed read_byte taken take_name next_column
name_cell names column k bytes rest h g free =
    ap (λ (s : ReaderState). fed (read_byte s 32) rest) (letter_read names column k bytes h)
    ∙ rw (free, lt-ltb column 3 g)

last_name : (names : Names) (k : ℕ) (bytes : List ℕ) → k < 4 → column_of names (named k) ≡ None
    → fed (between names 3 0 false, bytes) (letter k ∷ (10 ∷ [])) ≡ (between (with_name names (named k) 3) 0 1 false, bytes)
unfolding fed read_byte taken take_name next_line counted
last_name names k bytes h free = ap (λ (s : ReaderState). read_byte s 10) (letter_read names 3 k bytes h)
    ∙ rw free

-- ---- the four names

module _ (o : Order) where
  abbrev pub names1 : Names
  names1 = with_name no_names (named o.col0) 0

  abbrev pub names2 : Names
  names2 = with_name names1 (named o.col1) 1

  abbrev pub names3 : Names
  names3 = with_name names2 (named o.col2) 2

  abbrev pub names_of : Names
  names_of = with_name names3 (named o.col3) 3

  -- each name's column is free before it is placed, and gives the name back after all are
  pub record Fine : Type 0 where
    pub free0 : column_of no_names (named o.col0) ≡ None
    pub free1 : column_of names1 (named o.col1) ≡ None
    pub free2 : column_of names2 (named o.col2) ≡ None
    pub free3 : column_of names3 (named o.col3) ≡ None
    pub slot0 : slot_of names_of 0 ≡ o.col0
    pub slot1 : slot_of names_of 1 ≡ o.col1
    pub slot2 : slot_of names_of 2 ≡ o.col2
    pub slot3 : slot_of names_of 3 ≡ o.col3
    pub low0 : o.col0 < 4
    pub low1 : o.col1 < 4
    pub low2 : o.col2 < 4
    pub low3 : o.col3 < 4

  abbrev pub is_free : Bool
  is_free = is_none (column_of no_names (named o.col0))
      && (is_none (column_of names1 (named o.col1)) && (is_none (column_of names2 (named o.col2)) && is_none (column_of names3 (named o.col3))))

  abbrev pub is_back : Bool
  is_back = eqb (slot_of names_of 0) o.col0
      && (eqb (slot_of names_of 1) o.col1 && (eqb (slot_of names_of 2) o.col2 && eqb (slot_of names_of 3) o.col3))

  pub order_read : (bytes : List ℕ) → Fine
      → fed (between no_names 0 0 false, bytes) (order_text o) ≡ (between names_of 0 1 false, bytes)
  unfolding order_text
  order_read bytes f =
      name_cell no_names 0 o.col0 bytes _ f.low0 (lit< tt) f.free0
      ∙ name_cell names1 1 o.col1 bytes _ f.low1 (lit< tt) f.free1
      ∙ name_cell names2 2 o.col2 bytes _ f.low2 (lit< tt) f.free2
      ∙ last_name names3 o.col3 bytes f.low3 f.free3
