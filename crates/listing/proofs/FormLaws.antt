-- The other way for a text: whatever the bytes, the reader's state says what they were, or there is a fault of form for
-- good. One byte keeps that: it goes to the word, or ends one. Assumes nothing.
use mathlib.Core.Path.{◌≡◌, refl, sym, subst, ◌∙◌}
use mathlib.Core.Logic.{◌⊎◌, inl, inr}
use mathlib.Core.Bool.{Bool, true, false, cond}
use mathlib.Core.List.{List, [], ◌∷◌, ◌++◌, append_assoc, append-nil}
use Rattle.std.specs.Prelude.{Option, Some, None}
use Prim.Native.Nat.{ℕ, ◌+◌, ◌≤◌, ◌<◌}
use native.Mathlib.Omega.{arith}
use borrow.Author.Tests.{eq-eqb, ne_eqb, lt-ltb, le-ltb}
use lib.Dec.{T, eqb, ltb}
use lib.ListN.{length}
use Rattle.exact.proofs.Naturals.{lt_or_le}
use Rattle.listing.specs.declared.word.Word.{Word}
use Rattle.listing.specs.declared.word.Word.TheVariants.{Empty, Name, Number, Wrong}
use Rattle.listing.specs.declared.names.Names.{Names}
use Rattle.listing.specs.declared.reader.Reader.{Reader}
use Rattle.listing.specs.Word.{next}
use Rattle.listing.specs.Names.{no_names, column_of, with_name}
use Rattle.listing.specs.Reader.{
  ReaderState,
  start_reader,
  with_word,
  take_name,
  take_number,
  taken,
  is_large,
  next_column,
  counted,
  next_line,
  read_byte,
  fed,
}
use Rattle.listing.specs.Text.{
  Numeral,
  digits,
  AllDigits,
  numeral_text,
  NumeralPair,
  AllProper,
  Order,
  is_order,
  letter,
  text,
}
use Rattle.listing.proofs.NamesLaws.{named}
use Rattle.listing.proofs.OrderLaws.{names_of}
use Rattle.listing.proofs.PairLaws.{between}
use Rattle.listing.proofs.WordForm.{WordText, empty, minus, name, number, wrong, same_or_not, grow}
use Rattle.listing.proofs.LineForm.{
  placed_all,
  Free,
  name_cells,
  AllCells,
  number_cells,
  Seen,
  in_names,
  in_pairs,
  too_many,
  names_space,
  names_end,
  numbers_space,
  numbers_end,
}

-- with a fault of form
abbrev faulty : Names → ℕ → ℕ → Bool → Reader
faulty names column lines large = record { names = names; word = Wrong; column = column; lines = lines; large = large }

pub data Form : Reader → List ℕ → Type 0 where
  lost : (names : Names) (column lines : ℕ) (large : Bool) (t : List ℕ) → Form (faulty names column lines large) t
  form : (names : Names) (w : Word) (column lines : ℕ) (large : Bool) (t u : List ℕ) → WordText w u
      → Seen names column lines t
      → Form (record { names = names; word = w; column = column; lines = lines; large = large }) (t ++ u)

-- ---- a byte in a word
in_word : (r : Reader) (t : List ℕ) (b : ℕ) → Form r t → Form (with_word r (next r.word b)) (t ++ b ∷ [])
unfolding next
in_word _ t b (lost names column lines large _) = lost names column lines large _
in_word _ _ b (form names w column lines large t u h s) =
    subst (Form _) (sym (append_assoc t u (b ∷ [])))
    (form names (next w b) column lines large t (u ++ b ∷ []) (grow w u b h) s)

-- ---- the end of a word: what it was, before the column or the line is counted
data Taken : Reader → List ℕ → Type 0 where
  gone : (names : Names) (column lines : ℕ) (large : Bool) (t : List ℕ) → Taken (faulty names column lines large) t
  a_name : (ks : List ℕ) → Free no_names 0 ks → (k : ℕ) → k < 4 → column_of (placed_all no_names 0 ks) (named k) ≡ None
      → (large : Bool)
      → Taken (between (with_name (placed_all no_names 0 ks) (named k) (length ks)) (length ks) 0 large)
      (name_cells ks ++ letter k ∷ [])
  a_number : (o : Order) → T (is_order o) → (ps : List NumeralPair) → AllProper ps → length ps ≤ 64 → (ns : List Numeral)
      → AllCells ns → (n : Numeral) → AllDigits (digits n) → (large : Bool)
      → Taken (between (names_of o) (length ns) (1 + length ps) large) (text o ps ++ number_cells ns ++ numeral_text n)
  one_of_many : (names : Names) (column lines : ℕ) (large : Bool) (t : List ℕ) → 65 < lines
      → Taken (between names column lines large) t

none_or_some : (o : Option ℕ) → (o ≡ None) ⊎ ((k : ℕ) × (o ≡ Some k))
none_or_some None = inl refl
none_or_some (Some k) = inr (k, refl)

name_taken : (names : Names) (column lines : ℕ) (large : Bool) (t : List ℕ) (k : ℕ) → k < 4 → Seen names column lines t
    → Taken (take_name (record { names = names; word = Name (named k); column = column; lines = lines; large = large }) (named k)) (t
    ++ letter k ∷ [])
unfolding take_name
name_taken _ _ _ large _ k l (in_names ks f) = elim (none_or_some (column_of (placed_all no_names 0 ks) (named k))) [
  | inl e ↦ rw e (a_name ks f k l e large)
  | inr n ↦ rw n.1 (gone _ _ _ _ _)
]
name_taken _ _ _ large _ k l (in_pairs o is ps proper room ns h) =
    rw (ne_eqb (1 + length ps) 0 (λ e. omega arith)) (gone _ _ _ _ _)
name_taken _ _ _ large _ k l (too_many names column lines t m) = rw (ne_eqb lines 0 (λ e. omega arith)) (gone _ _ _ _ _)

number_taken : (names : Names) (column lines : ℕ) (large : Bool) (t bytes : List ℕ) (n : Numeral) (size : ℕ)
    → AllDigits (digits n) → Seen names column lines t
    → Taken (take_number (record {
      names = names;
      word = Number n.negative size;
      column = column;
      lines = lines;
      large = large;
    }) n.negative size bytes).0 (t ++ numeral_text n)
unfolding take_number
number_taken _ _ _ large _ bytes n size d (in_names ks f) = gone _ _ _ _ _
number_taken _ _ _ large _ bytes n size d (in_pairs o is ps proper room ns h) =
    rw (ne_eqb (1 + length ps) 0 (λ e. omega arith)) (a_number o is ps proper room ns h n d (is_large large size))
number_taken _ _ _ large _ bytes n size d (too_many names column lines t m) =
    rw (ne_eqb lines 0 (λ e. omega arith)) (one_of_many names column lines (is_large large size) _ m)

word_taken : (r : Reader) (t bytes : List ℕ) → Form r t → Taken (taken r.word r bytes).0 t
unfolding taken
word_taken _ _ bytes (lost names column lines large t) = gone names column lines large t
word_taken _ _ bytes (form names _ column lines large t _ empty s) = gone _ _ _ _ _
word_taken _ _ bytes (form names _ column lines large t _ minus s) = gone _ _ _ _ _
word_taken _ _ bytes (form names _ column lines large t _ (name k l) s) = name_taken names column lines large t k l s
word_taken _ _ bytes (form names _ column lines large t _ (number n size d) s) =
    number_taken names column lines large t bytes n size d s
word_taken _ _ bytes (form names _ column lines large t _ (wrong u) s) = gone _ _ _ _ _

-- ---- a space or a line feed after it

-- either way of a test is lost
lost_either : (u : Bool) (names : Names) (column column' lines lines' : ℕ) (large : Bool) (t : List ℕ)
    → Form (cond u (faulty names column lines large) (faulty names column' lines' large)) t
lost_either true names column column' lines lines' large t = lost names column lines large t
lost_either false names column column' lines lines' large t = lost names column' lines' large t

-- between two words
begun : (names : Names) (column lines : ℕ) (large : Bool) (t t' : List ℕ) → t ≡ t' → Seen names column lines t
    → Form (between names column lines large) t'
begun names column lines large t t' e s =
    subst (Form _) (append-nil t ∙ e) (form names Empty column lines large t [] empty s)

after_space : (r : Reader) (t : List ℕ) → Taken r t → Form (next_column r) (t ++ 32 ∷ [])
unfolding next_column
after_space _ _ (gone names column lines large t) =
    lost_either (ltb column 3) names (column + 1) column lines lines large _
after_space _ _ (a_name ks f k l e large) = elim (lt_or_le (length ks) 3) [
  | inl h ↦ rw (lt-ltb (length ks) 3 h)
      (begun _ _ _ large _ _ (sym (append_assoc (name_cells ks) (letter k ∷ []) (32 ∷ []))) (names_space ks k f l e))
  | inr h ↦ rw (le-ltb (length ks) 3 h) (lost _ _ _ _ _)
]
after_space _ _ (a_number o is ps proper room ns h n d large) = elim (lt_or_le (length ns) 3) [
  | inl l ↦ rw (lt-ltb (length ns) 3 l)
      (begun _ _ _ large _ _ (sym (append_assoc (text o ps ++ number_cells ns) (numeral_text n) (32 ∷ [])))
      (numbers_space o is ps proper room ns n h d))
  | inr l ↦ rw (le-ltb (length ns) 3 l) (lost _ _ _ _ _)
]
after_space _ _ (one_of_many names column lines large t m) = elim (lt_or_le column 3) [
  | inl h ↦ rw (lt-ltb column 3 h) (begun _ _ _ large _ _ refl (too_many names (column + 1) lines (t ++ 32 ∷ []) m))
  | inr h ↦ rw (le-ltb column 3 h) (lost _ _ _ _ _)
]

many_more : (lines : ℕ) → 65 < lines → 65 < counted lines
unfolding counted
many_more lines m = either (ltb lines 66)
  where
    either : (u : Bool) → 65 < cond u (lines + 1) 66
    either true = omega arith
    either false = omega arith

after_line : (r : Reader) (t : List ℕ) → Taken r t → Form (next_line r) (t ++ 10 ∷ [])
unfolding next_line counted
after_line _ _ (gone names column lines large t) =
    lost_either (eqb column 3) names 0 column (counted lines) lines large _
after_line _ _ (a_name ks f k l e large) = elim (same_or_not (length ks) 3) [
  | inl h ↦ rw (eq-eqb (length ks) 3 h)
      (begun _ _ _ large _ _ (sym (append_assoc (name_cells ks) (letter k ∷ []) (10 ∷ []))) (names_end ks k f l e h))
  | inr h ↦ rw (ne_eqb (length ks) 3 h) (lost _ _ _ _ _)
]
after_line _ _ (a_number o is ps proper room ns h n d large) = elim (same_or_not (length ns) 3) [
  | inl l ↦ rw (eq-eqb (length ns) 3 l)
      (begun _ _ _ large _ _ (sym (append_assoc (text o ps ++ number_cells ns) (numeral_text n) (10 ∷ [])))
      (numbers_end o is ps proper room ns n h d l))
  | inr l ↦ rw (ne_eqb (length ns) 3 l) (lost _ _ _ _ _)
]
after_line _ _ (one_of_many names column lines large t m) = elim (same_or_not column 3) [
  | inl h ↦ rw (eq-eqb column 3 h)
      (begun _ _ _ large _ _ refl (too_many names 0 (counted lines) (t ++ 10 ∷ []) (many_more lines m)))
  | inr h ↦ rw (ne_eqb column 3 h) (lost _ _ _ _ _)
]

-- ---- any byte, and all of them
step_form : (s : ReaderState) (t : List ℕ) (b : ℕ) → Form s.0 t → Form (read_byte s b).0 (t ++ b ∷ [])
unfolding read_byte
step_form s t b f = elim (same_or_not b 10) [
  | inl e ↦ subst (λ (c : ℕ). Form (read_byte s c).0 (t ++ c ∷ [])) (sym e)
      (after_line _ t (word_taken s.0 t s.1 f))
  | inr n ↦ elim (same_or_not b 32) [
    | inl e ↦ subst (λ (c : ℕ). Form (read_byte s c).0 (t ++ c ∷ [])) (sym e)
        (after_space _ t (word_taken s.0 t s.1 f))
    | inr m ↦ rw (ne_eqb b 10 n, ne_eqb b 32 m) (in_word s.0 t b f)
  ]
]

fed_form : (s : ReaderState) (t input : List ℕ) → Form s.0 t → Form (fed s input).0 (t ++ input)
unfolding fed
fed_form s t [] f = subst (Form _) (sym (append-nil t)) f
fed_form s t (b ∷ input) f =
    subst (Form _) (append_assoc t (b ∷ []) input) (fed_form (read_byte s b) (t ++ b ∷ []) input (step_form s t b f))

pub all_form : (input bytes : List ℕ) → Form (fed (start_reader, bytes) input).0 input
unfolding placed_all Free name_cells
all_form input bytes = fed_form (start_reader, bytes) [] input
    (form no_names Empty 0 0 false [] [] empty (in_names [] tt))
