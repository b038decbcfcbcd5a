-- A text's numbers are all within the limit where the reader has met none that is too large: the size that it keeps is
-- the number, or both are above the limit. Assumes nothing.
use mathlib.Core.Path.{◌≡◌, refl, sym, ap, ◌∙◌}
use mathlib.Core.Logic.{inl, inr}
use mathlib.Core.Bool.{Bool, true, false, cond, true≢false}
use mathlib.Core.List.{List, [], ◌∷◌}
use Prim.Native.Nat.{ℕ, ◌≤◌, ◌<◌}
use native.Mathlib.Omega.{arith}
use borrow.Author.Tests.{lt-ltb, le-ltb}
use Rattle.exact.proofs.Naturals.{lt_or_le}
use Rattle.listing.specs.Word.{largest_number}
use Rattle.listing.specs.Reader.{is_large}
use Rattle.listing.specs.Text.{
  Numeral,
  digits,
  AllDigits,
  magnitude,
  NumeralPair,
  Proper,
  AllProper,
  NotTooLarge,
  AllWithin,
}
use Rattle.listing.proofs.NumeralLaws.{size_of, held}
use Rattle.listing.proofs.PairLaws.{large_after, large_all}

-- ---- one number

stays_small : (large : Bool) (size : ℕ) → size ≤ largest_number → is_large large size ≡ large
unfolding is_large
stays_small large size h = rw (le-ltb largest_number size h)

size_within : (n : Numeral) → AllDigits (digits n) → magnitude n ≤ largest_number → size_of n ≤ largest_number
size_within n h m = omega (arith, (held n h).exact m)

module _ (large : Bool) (n : Numeral) (h : AllDigits (digits n)) (e : is_large large (size_of n) ≡ false) where
  was_small : size_of n ≤ largest_number
  unfolding is_large
  was_small = elim (lt_or_le largest_number (size_of n)) [
    | inl l ↦ absurd (true≢false (sym (ap (λ (t : Bool). cond t true large) (lt-ltb largest_number (size_of n) l)) ∙ e))
    | inr
        l ↦ l
  ]

  number_within : magnitude n ≤ largest_number
  number_within = elim (lt_or_le largest_number (magnitude n))
      [ inl l ↦ absurd (clash ((held n h).above l) was_small) | inr l ↦ l ]
    where
      clash : largest_number < size_of n → size_of n ≤ largest_number → ⊥
      clash a b = omega arith

  none_before : large ≡ false
  none_before = sym (stays_small large (size_of n) was_small) ∙ e

-- ---- a pair, and all

pair_small : (large : Bool) (p : NumeralPair) → Proper p → NotTooLarge p → large_after large p ≡ large
pair_small large p h w =
    stays_small _ _ (size_within p.col3 h.1.1.1 w.1.1.1)
    ∙ stays_small _ _ (size_within p.col2 h.1.1.0 w.1.1.0)
    ∙ stays_small _ _ (size_within p.col1 h.1.0 w.1.0)
    ∙ stays_small _ _ (size_within p.col0 h.0 w.0)

pub all_small : (large : Bool) (ps : List NumeralPair) → AllProper ps → AllWithin ps → large_all large ps ≡ large
unfolding large_all
all_small large [] h w = refl
all_small large (p ∷ ps) h w = all_small (large_after large p) ps h.1 w.1 ∙ pair_small large p h.0 w.0

pair_within : (large : Bool) (p : NumeralPair) → Proper p → large_after large p ≡ false → (large ≡ false) × NotTooLarge p
pair_within large p h e =
    let a0 = is_large large (size_of p.col0) in
    let a1 = is_large a0 (size_of p.col1) in
    let a2 = is_large a1 (size_of p.col2) in
    let e2 : a2 ≡ false = none_before a2 p.col3 h.1.1.1 e in
    let e1 : a1 ≡ false = none_before a1 p.col2 h.1.1.0 e2 in
    let e0 : a0 ≡ false = none_before a0 p.col1 h.1.0 e1 in (
      none_before large p.col0 h.0 e0,
      (
        number_within large p.col0 h.0 e0,
        (
          number_within a0 p.col1 h.1.0 e1,
          (number_within a1 p.col2 h.1.1.0 e2, number_within a2 p.col3 h.1.1.1 e),
        ),
      ),
    )

pub all_within : (large : Bool) (ps : List NumeralPair) → AllProper ps → large_all large ps ≡ false → (large ≡ false)
    × AllWithin ps
unfolding large_all
all_within large [] h e = (e, tt)
all_within large (p ∷ ps) h e =
    let r = all_within (large_after large p) ps h.1 e in
    let q = pair_within large p h.0 r.0 in
    (q.0, (q.1, r.1))
