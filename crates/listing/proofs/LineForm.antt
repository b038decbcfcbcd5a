-- The other way for a line: the reader's names, column and lines say what the text before the word is, as long as there
-- are not too many lines. Each word that is taken keeps that. Assumes nothing.
use mathlib.Core.Path.{◌≡◌, refl, sym, ap, subst, ◌∙◌}
use mathlib.Core.Logic.{inl, inr}
use mathlib.Core.Bool.{Bool, true, false, cond}
use mathlib.Core.List.{List, [], ◌∷◌, ◌++◌, append_assoc, append-nil}
use Rattle.std.specs.Prelude.{None}
use Prim.Native.Nat.{ℕ, ◌+◌, ◌≤◌, ◌<◌}
use native.Mathlib.Omega.{arith}
use borrow.Author.Tests.{lt-ltb}
use lib.Dec.{T, ltb}
use lib.ListN.{length, length-append}
use Rattle.exact.proofs.Naturals.{lt_or_le}
use Rattle.listing.specs.declared.names.Names.{Names}
use Rattle.listing.specs.Names.{no_names, column_of, with_name}
use Rattle.listing.specs.Reader.{counted}
use Rattle.listing.specs.Text.{
  Numeral,
  digits,
  AllDigits,
  numeral_text,
  NumeralPair,
  Proper,
  AllProper,
  pair_text,
  pairs_text,
  Order,
  is_order,
  letter,
  order_text,
  text,
}
use Rattle.listing.proofs.NamesLaws.{named}
use Rattle.listing.proofs.OrderLaws.{names_of}
use Rattle.listing.proofs.OrderTests.{free_order}

-- ---- names that are placed, each where its column is free

unfoldable pub placed_all : Names → ℕ → List ℕ → Names
placed_all names column [] = names
placed_all names column (k ∷ ks) = placed_all (with_name names (named k) column) (column + 1) ks

unfoldable pub Free : Names → ℕ → List ℕ → Type 0
Free names column [] = Unit {0}
Free names column (k ∷ ks) = (k < 4) × ((column_of names (named k) ≡ None) × Free (with_name names (named k) column) (column + 1) ks)

unfoldable pub name_cells : List ℕ → List ℕ
name_cells [] = []
name_cells (k ∷ ks) = letter k ∷ (32 ∷ name_cells ks)

placed_more : (names : Names) (column : ℕ) (ks : List ℕ) (k : ℕ)
    → with_name (placed_all names column ks) (named k) (column + length ks) ≡ placed_all names column (ks ++ k ∷ [])
unfolding placed_all
placed_more names column [] k = ap (with_name names (named k)) (omega arith)
placed_more names column (j ∷ ks) k = ap (with_name (placed_all (with_name names (named j) column) (column + 1) ks) (named k))
    (omega arith)
    ∙ placed_more (with_name names (named j) column) (column + 1) ks k

free_more : (names : Names) (column : ℕ) (ks : List ℕ) (k : ℕ) → Free names column ks → k < 4
    → column_of (placed_all names column ks) (named k) ≡ None → Free names column (ks ++ k ∷ [])
unfolding Free placed_all
free_more names column [] k f l e = (l, (e, tt))
free_more names column (j ∷ ks) k f l e =
    (f.0, (f.1.0, free_more (with_name names (named j) column) (column + 1) ks k f.1.1 l e))

cells_more : (ks : List ℕ) (k : ℕ) → name_cells ks ++ letter k ∷ (32 ∷ []) ≡ name_cells (ks ++ k ∷ [])
unfolding name_cells
cells_more [] k = refl
cells_more (j ∷ ks) k = ap (λ (t : List ℕ). letter j ∷ (32 ∷ t)) (cells_more ks k)

-- ---- numbers of a line that is begun

abbrev pub AllCells : List Numeral → Type 0
AllCells [] = Unit {0}
AllCells (n ∷ ns) = AllDigits (digits n) × AllCells ns

unfoldable pub number_cells : List Numeral → List ℕ
number_cells [] = []
number_cells (n ∷ ns) = numeral_text n ++ 32 ∷ number_cells ns

all_cells : (ns : List Numeral) (n : Numeral) → AllCells ns → AllDigits (digits n) → AllCells (ns ++ n ∷ [])
all_cells [] n h d = (d, tt)
all_cells (m ∷ ns) n h d = (h.0, all_cells ns n h.1 d)

numbers_more : (ns : List Numeral) (n : Numeral) → number_cells ns
    ++ (numeral_text n ++ 32 ∷ []) ≡ number_cells (ns ++ n ∷ [])
unfolding number_cells
numbers_more [] n = refl
numbers_more (m ∷ ns) n = append_assoc (numeral_text m) _ _
    ∙ ap (λ (t : List ℕ). numeral_text m ++ 32 ∷ t) (numbers_more ns n)

-- ---- a pair more

all_proper : (ps : List NumeralPair) (p : NumeralPair) → AllProper ps → Proper p → AllProper (ps ++ p ∷ [])
all_proper [] p h d = (d, tt)
all_proper (q ∷ ps) p h d = (h.0, all_proper ps p h.1 d)

pairs_more : (ps : List NumeralPair) (p : NumeralPair) → pairs_text (ps ++ p ∷ []) ≡ pairs_text ps ++ pair_text p
unfolding pairs_text
pairs_more [] p = append-nil (pair_text p)
pairs_more (q ∷ ps) p = ap (λ (t : List ℕ). pair_text q ++ t) (pairs_more ps p)
    ∙ sym (append_assoc (pair_text q) (pairs_text ps) (pair_text p))

text_more : (o : Order) (ps : List NumeralPair) (p : NumeralPair) → text o (ps ++ p ∷ []) ≡ text o ps ++ pair_text p
unfolding text
text_more o ps p = ap (λ (t : List ℕ). order_text o ++ t) (pairs_more ps p)
    ∙ sym (append_assoc (order_text o) (pairs_text ps) (pair_text p))

-- ---- what the names, the column and the lines say of the text before the word

pub data Seen : Names → ℕ → ℕ → List ℕ → Type 0 where
  in_names : (ks : List ℕ) → Free no_names 0 ks → Seen (placed_all no_names 0 ks) (length ks) 0 (name_cells ks)
  in_pairs : (o : Order) → T (is_order o) → (ps : List NumeralPair) → AllProper ps → length ps ≤ 64 → (ns : List Numeral)
      → AllCells ns → Seen (names_of o) (length ns) (1 + length ps) (text o ps ++ number_cells ns)
  too_many : (names : Names) (column lines : ℕ) (t : List ℕ) → 65 < lines → Seen names column lines t

seen_same : {names names' : Names} {column column' lines : ℕ} {t t' : List ℕ} → names ≡ names' → column ≡ column'
    → t ≡ t' → Seen names column lines t → Seen names' column' lines t'
seen_same {names} {names'} {column} {column'} {lines} {t} {t'} e f g s =
    subst (Seen names' column' lines) g
    (subst (λ (c : ℕ). Seen names' c lines t) f (subst (λ (n : Names). Seen n column lines t) e s))

one_longer : {A : Type 0} (xs : List A) (x : A) → length (xs ++ x ∷ []) ≡ length xs + 1
one_longer xs x = length-append xs (x ∷ [])

-- a name is taken, and a space or the line feed follows
pub names_space : (ks : List ℕ) (k : ℕ) → Free no_names 0 ks → k < 4 → column_of (placed_all no_names 0 ks) (named k) ≡ None
    → Seen (with_name (placed_all no_names 0 ks) (named k) (length ks)) (length ks + 1) 0 (name_cells ks ++ letter k ∷ (32 ∷ []))
names_space ks k f l e =
    seen_same (sym (placed_more no_names 0 ks k) ∙ ap (with_name (placed_all no_names 0 ks) (named k)) (omega arith))
    (one_longer ks k)
    (sym (cells_more ks k))
    (in_names (ks ++ k ∷ []) (free_more no_names 0 ks k f l e))

pub names_end : (ks : List ℕ) (k : ℕ) → Free no_names 0 ks → k < 4 → column_of (placed_all no_names 0 ks) (named k) ≡ None
    → length ks ≡ 3
    → Seen (with_name (placed_all no_names 0 ks) (named k) (length ks)) 0 1 (name_cells ks ++ letter k ∷ (10 ∷ []))
unfolding placed_all Free name_cells number_cells text order_text pairs_text
names_end [] k f l e h = absurd (omega (arith, h))
names_end (a ∷ []) k f l e h = absurd (omega (arith, h))
names_end (a ∷ (b ∷ [])) k f l e h = absurd (omega (arith, h))
names_end (a ∷ (b ∷ (c ∷ []))) k f l e h =
    in_pairs (record { col0 = a; col1 = b; col2 = c; col3 = k })
    (free_order (record { col0 = a; col1 = b; col2 = c; col3 = k }) f.0 f.1.1.0 f.1.1.1.1.0 l f.1.0
    f.1.1.1.0 f.1.1.1.1.1.0 e)
    []
    tt
    (omega arith)
    []
    tt
names_end (a ∷ (b ∷ (c ∷ (d ∷ ks)))) k f l e h = absurd (omega (arith, h))

-- a number is taken, and a space or the line feed follows
module _ (o : Order) (is : T (is_order o)) (ps : List NumeralPair) (proper : AllProper ps) (room : length ps ≤ 64) where
  pub numbers_space : (ns : List Numeral) (n : Numeral) → AllCells ns → AllDigits (digits n)
      → Seen (names_of o) (length ns + 1) (1 + length ps) (text o ps ++ number_cells ns ++ (numeral_text n ++ 32 ∷ []))
  numbers_space ns n h d =
      seen_same refl (one_longer ns n)
      (sym (append_assoc (text o ps) (number_cells ns) _ ∙ ap (λ (t : List ℕ). text o ps ++ t) (numbers_more ns n)))
      (in_pairs o is ps proper room (ns ++ n ∷ []) (all_cells ns n h d))

  pair_ends : (p : NumeralPair) → Proper p → Seen (names_of o) 0 (counted (1 + length ps)) (text o ps ++ pair_text p)
  unfolding counted number_cells
  pair_ends p d = elim (lt_or_le (length ps) 64) [
    | inl l ↦ subst (λ (k : ℕ). Seen (names_of o) 0 k (text o ps ++ pair_text p))
        (ap (λ (k : ℕ). 1 + k) (one_longer ps p) ∙ counts (length ps) l)
        (subst (Seen (names_of o) 0 (1 + length (ps ++ p ∷ []))) (append-nil _ ∙ text_more o ps p)
        (in_pairs o is (ps ++ p ∷ []) (all_proper ps p proper d) (omega (arith, one_longer ps p)) [] tt))
    | inr g ↦ too_many _ _ _ _ (over (length ps) g)
  ]
    where
      counts : (k : ℕ) → k < 64 → 1 + (k + 1) ≡ cond (ltb (1 + k) 66) (1 + k + 1) 66
      counts k l = rw (lt-ltb (1 + k) 66 (omega arith)) (omega arith)

      over : (k : ℕ) → 64 ≤ k → 65 < cond (ltb (1 + k) 66) (1 + k + 1) 66
      over k g = either (ltb (1 + k) 66) g
        where
          either : (u : Bool) → 64 ≤ k → 65 < cond u (1 + k + 1) 66
          either true h = omega arith
          either false h = omega arith

  pub numbers_end : (ns : List Numeral) (n : Numeral) → AllCells ns → AllDigits (digits n) → length ns ≡ 3
      → Seen (names_of o) 0 (counted (1 + length ps)) (text o ps ++ number_cells ns ++ (numeral_text n ++ 10 ∷ []))
  unfolding number_cells pair_text
  numbers_end [] n h d e = absurd (omega (arith, e))
  numbers_end (a ∷ []) n h d e = absurd (omega (arith, e))
  numbers_end (a ∷ (b ∷ [])) n h d e = absurd (omega (arith, e))
  numbers_end (a ∷ (b ∷ (c ∷ []))) n h d e =
      subst (Seen (names_of o) 0 (counted (1 + length ps))) (sym (simp append_assoc))
      (pair_ends (record { col0 = a; col1 = b; col2 = c; col3 = n }) (h.0, (h.1.0, (h.1.1.0, d))))
  numbers_end (a ∷ (b ∷ (c ∷ (m ∷ ns)))) n h d e = absurd (omega (arith, e))
