-- The texts of specification 12.1, written down from what they say: a line of the four names in some order, then a pair
-- a line as whole numbers of 64ths. The laws of the reader speak of them. Assumes nothing.
use Rattle.std.specs.Prelude.{ℕ, ◌+◌, ◌*◌, ◌≤◌, ◌<◌, Bool, not, ◌&&◌, cond, List, [], ◌∷◌, ◌++◌, map, ◌≡◌, T, eqb, ltb, length}
use Rattle.exact.specs.Limits.{most_pairs}
use Rattle.listing.specs.Word.{largest_number}

-- ---- a number: its sign, and its digits, the highest first, at least one

pub record Numeral : Type 0 where
  pub negative : Bool
  pub first : ℕ
  pub rest : List ℕ

abbrev pub digits : Numeral → List ℕ
digits n = n.first ∷ n.rest

abbrev pub AllDigits : List ℕ → Type 0
AllDigits [] = Unit {0}
AllDigits (d ∷ ds) = (d < 10) × AllDigits ds

-- what further digits make of a number
unfoldable pub continued : ℕ → List ℕ → ℕ
continued m [] = m
continued m (d ∷ ds) = continued (10 * m + d) ds

abbrev pub magnitude : Numeral → ℕ
magnitude n = continued 0 (digits n)

-- 0 is 48, and the minus sign is 45
abbrev pub digits_text : List ℕ → List ℕ
digits_text ds = map (λ (d : ℕ). 48 + d) ds

unfoldable pub numeral_text : Numeral → List ℕ
numeral_text n = cond n.negative (45 ∷ digits_text (digits n)) (digits_text (digits n))

-- ---- four of something in the order of the columns: a pair's numbers, or the numbers of the names (u 0, v 1, x 2, y
-- 3)

pub record Four (A : Type 0) : Type 0 where
  pub col0 : A
  pub col1 : A
  pub col2 : A
  pub col3 : A

-- the four texts parted by a space (32), and a line feed (10)
abbrev pub line_of : Four (List ℕ) → List ℕ
line_of t = t.col0 ++ 32 ∷ (t.col1 ++ 32 ∷ (t.col2 ++ 32 ∷ (t.col3 ++ 10 ∷ [])))

abbrev pub NumeralPair : Type 0
NumeralPair = Four Numeral

abbrev pub Proper : NumeralPair → Type 0
Proper p = AllDigits (digits p.col0)
    × (AllDigits (digits p.col1) × (AllDigits (digits p.col2) × AllDigits (digits p.col3)))

unfoldable pub pair_text : NumeralPair → List ℕ
unfolding numeral_text
pair_text p = line_of (record {
  col0 = numeral_text p.col0;
  col1 = numeral_text p.col1;
  col2 = numeral_text p.col2;
  col3 = numeral_text p.col3;
})

abbrev pub AllProper : List NumeralPair → Type 0
AllProper [] = Unit {0}
AllProper (p ∷ ps) = Proper p × AllProper ps

unfoldable pub pairs_text : List NumeralPair → List ℕ
unfolding pair_text
pairs_text [] = []
pairs_text (p ∷ ps) = pair_text p ++ pairs_text ps

-- ---- the names, each once

abbrev pub Order : Type 0
Order = Four ℕ

abbrev pub all_names : Order → Bool
all_names o = ltb o.col0 4 && (ltb o.col1 4 && (ltb o.col2 4 && ltb o.col3 4))

abbrev pub unlike : ℕ → ℕ → Bool
unlike a b = not (eqb a b)

abbrev pub all_unlike : Order → Bool
all_unlike o =
    unlike o.col0 o.col1
    && (unlike o.col0 o.col2
    && (unlike o.col0 o.col3
    && (unlike o.col1 o.col2 && (unlike o.col1 o.col3 && unlike o.col2 o.col3))))

unfoldable pub is_order : Order → Bool
is_order o = all_names o && all_unlike o

-- u is 117, v 118, x 120 and y 121
unfoldable pub letter : ℕ → ℕ
letter k = cond (eqb k 0) 117 (cond (eqb k 1) 118 (cond (eqb k 2) 120 121))

unfoldable pub order_text : Order → List ℕ
order_text o = line_of (record {
  col0 = letter o.col0 ∷ [];
  col1 = letter o.col1 ∷ [];
  col2 = letter o.col2
      ∷ [];
  col3 = letter o.col3 ∷ [];
})

-- ---- the whole text

unfoldable pub text : Order → List NumeralPair → List ℕ
text o ps = order_text o ++ pairs_text ps

-- no number of a pair, or of any, is too large
abbrev pub NotTooLarge : NumeralPair → Type 0
NotTooLarge p = (magnitude p.col0 ≤ largest_number)
    × ((magnitude p.col1 ≤ largest_number)
    × ((magnitude p.col2 ≤ largest_number) × (magnitude p.col3 ≤ largest_number)))

abbrev pub AllWithin : List NumeralPair → Type 0
AllWithin [] = Unit {0}
AllWithin (p ∷ ps) = NotTooLarge p × AllWithin ps

-- a text of specification 12.1: some order of the names, and 1 to 64 pairs
pub record Described (input : List ℕ) : Type 0 where
  pub order : Order
  pub is_one : T (is_order order)
  pub pairs : List NumeralPair
  pub proper : AllProper pairs
  pub some : 0 < length pairs
  pub room : length pairs ≤ most_pairs
  pub is : input ≡ text order pairs
