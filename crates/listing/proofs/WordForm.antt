-- The other way for a word: where the reader's word is not Wrong, the bytes that led to it are a name, a number, or the
-- start of one. Each byte keeps that. Assumes nothing.
use mathlib.Core.Path.{◌≡◌, refl, sym, ap, subst, ◌∙◌}
use mathlib.Core.Logic.{◌⊎◌, inl, inr}
use mathlib.Core.Bool.{Bool, true, false, cond}
use mathlib.Core.List.{List, [], ◌∷◌, ◌++◌}
use Prim.Native.Nat.{ℕ, ◌+◌, ◌-◌, ◌<◌}
use native.Mathlib.Omega.{arith}
use borrow.Author.Tests.{eq-eqb, ne_eqb, lt-ltb, le-ltb, eqb-true, eqb-false}
use lib.Dec.{eqb, lit<}
use Rattle.exact.proofs.Naturals.{lt_or_le}
use Rattle.listing.specs.declared.word.Word.{Word}
use Rattle.listing.specs.declared.word.Word.TheVariants.{Empty, Minus, Name, Number, Wrong}
use Rattle.listing.specs.Word.{name_of, with_digit, digit, first_byte, next, named_or}
use Rattle.listing.specs.Text.{Numeral, digits, AllDigits, digits_text, numeral_text, letter}
use Rattle.listing.proofs.NamesLaws.{named}

pub data WordText : Word → List ℕ → Type 0 where
  empty : WordText Empty []
  minus : WordText Minus (45 ∷ [])
  name : (k : ℕ) → k < 4 → WordText (Name (named k)) (letter k ∷ [])
  number : (n : Numeral) (size : ℕ) → AllDigits (digits n) → WordText (Number n.negative size) (numeral_text n)
  wrong : (t : List ℕ) → WordText Wrong t

pub same_or_not : (a b : ℕ) → (a ≡ b) ⊎ (a ≡ b → ⊥)
same_or_not a b = go (eqb a b) refl
  where
    go : (t : Bool) → eqb a b ≡ t → (a ≡ b) ⊎ (a ≡ b → ⊥)
    go true e = inl (eqb-true a b e)
    go false e = inr (eqb-false a b e)

-- a byte that has to be a digit
digit_form : (negative : Bool) (size b : ℕ) (t : List ℕ)
    → ((d size : ℕ) → d < 10 → b ≡ 48 + d → WordText (Number negative size) t) → WordText (digit negative size b) t
unfolding digit
digit_form negative size b t k = elim (lt_or_le b 48) [
  | inl l ↦ rw (lt-ltb b 48 l) (wrong t)
  | inr g ↦ elim (lt_or_le 57 b) [
    | inl l ↦ rw (le-ltb b 48 g, lt-ltb 57 b l) (wrong t)
    | inr h ↦ rw (le-ltb b 48 g, le-ltb 57 b h) (k (b - 48) (with_digit size (b - 48)) (omega arith) (omega arith))
  ]
]

-- the first byte of a word
named_form : (b : ℕ) → WordText (named_or (name_of b) (digit false 0 b)) (b ∷ [])
unfolding name_of letter numeral_text
named_form b = elim (same_or_not b 117) [
  | inl e ↦ rw (eq-eqb b 117 e, e) (name 0 (lit< tt))
  | inr u ↦ elim (same_or_not b 118) [
    | inl e ↦ rw (ne_eqb b 117 u, eq-eqb b 118 e, e) (name 1 (lit< tt))
    | inr v ↦ elim (same_or_not b 120) [
      | inl e ↦ rw (ne_eqb b 117 u, ne_eqb b 118 v, eq-eqb b 120 e, e) (name 2 (lit< tt))
      | inr x ↦ elim (same_or_not b 121) [
        | inl e ↦ rw (ne_eqb b 117 u, ne_eqb b 118 v, ne_eqb b 120 x, eq-eqb b 121 e, e) (name 3 (lit< tt))
        | inr y ↦ rw (ne_eqb b 117 u, ne_eqb b 118 v, ne_eqb b 120 x, ne_eqb b 121 y)
            (digit_form false 0 b (b ∷ []) (λ d size l e. subst (λ (c : ℕ). WordText (Number false size) (c ∷ [])) (sym e)
            (number (record { negative = false; first = d; rest = [] }) size (l, tt))))
      ]
    ]
  ]
]

first_form : (b : ℕ) → WordText (first_byte b) (b ∷ [])
unfolding first_byte
first_form b = elim (same_or_not b 45) [
  | inl e ↦ subst (λ (c : ℕ). WordText (cond (eqb c 45) Minus (named_or (name_of c) (digit false 0 c))) (c ∷ [])) (sym e)
      minus
  | inr n ↦ rw (ne_eqb b 45 n) (named_form b)
]

-- one digit more
all_digits : (ds : List ℕ) (d : ℕ) → AllDigits ds → d < 10 → AllDigits (ds ++ d ∷ [])
all_digits [] d h l = (l, tt)
all_digits (c ∷ ds) d h l = (h.0, all_digits ds d h.1 l)

more_text : (ds : List ℕ) (d : ℕ) → digits_text (ds ++ d ∷ []) ≡ digits_text ds ++ (48 + d) ∷ []
more_text [] d = refl
more_text (c ∷ ds) d = ap (λ (t : List ℕ). (48 + c) ∷ t) (more_text ds d)

more_numeral : (negative : Bool) (a : ℕ) (ds : List ℕ) (d : ℕ)
    → numeral_text (record { negative = negative; first = a; rest = ds ++ d ∷ [] }) ≡ numeral_text
    (record { negative = negative; first = a; rest = ds }) ++ (48 + d) ∷ []
unfolding numeral_text
more_numeral false a ds d = ap (λ (t : List ℕ). (48 + a) ∷ t) (more_text ds d)
more_numeral true a ds d = ap (λ (t : List ℕ). 45 ∷ ((48 + a) ∷ t)) (more_text ds d)

number_form : (n : Numeral) (size b : ℕ) → AllDigits (digits n)
    → WordText (digit n.negative size b) (numeral_text n ++ b ∷ [])
number_form n size b h =
    digit_form n.negative size b (numeral_text n ++ b ∷ []) (λ d size l e.
    subst (WordText (Number n.negative size)) (more_numeral n.negative n.first n.rest d
    ∙ ap (λ (c : ℕ). numeral_text n ++ c ∷ []) (sym e))
    (number (record { negative = n.negative; first = n.first; rest = n.rest ++ d ∷ [] }) size
    (all_digits (digits n) d h l)))

pub grow : (w : Word) (t : List ℕ) (b : ℕ) → WordText w t → WordText (next w b) (t ++ b ∷ [])
unfolding next numeral_text
grow Empty _ b empty = first_form b
grow Minus _ b minus =
    digit_form true 0 b (45 ∷ (b ∷ []))
    (λ d size l e. subst (λ (c : ℕ). WordText (Number true size) (45 ∷ (c ∷ []))) (sym e)
    (number (record { negative = true; first = d; rest = [] }) size (l, tt)))
grow (Name _) _ b (name _ l) = wrong _
grow (Number _ size) _ b (number n _ h) = number_form n size b h
grow Wrong t b (wrong _) = wrong _
