-- A table read row by row: a row that holds gives its number, one that does not is passed over, and where the answer is
-- 0 no row held; and a table in two parts. By the two cases of a test. Assumes nothing.
use mathlib.Core.Path.{◌≡◌, refl}
use mathlib.Core.Bool.{Bool, true, false, false≢true, true≢false}
use mathlib.Core.List.{List, [], ◌∷◌, ◌++◌}
use Prim.Native.Nat.{ℕ, suc, ◌<◌}
use native.Mathlib.Omega.{arith}
use Rattle.exact.specs.Table.{first_of}

pub row_holds : (n : ℕ) (b : Bool) (rows : List (ℕ × Bool)) → b ≡ true → n ≡ first_of ((n, b) ∷ rows)
unfolding first_of
row_holds n true rows e = refl
row_holds n false rows e = absurd (false≢true e)

pub row_passed : (n : ℕ) (b : Bool) (rows : List (ℕ × Bool)) {x : ℕ} → b ≡ false → x ≡ first_of rows
    → x ≡ first_of ((n, b) ∷ rows)
unfolding first_of
row_passed n true rows e h = absurd (true≢false e)
row_passed n false rows e h = h

pub no_rows : 0 ≡ first_of []
unfolding first_of
no_rows = refl

-- of a row whose number is not 0
pub row_failed : (n : ℕ) (b : Bool) (rows : List (ℕ × Bool)) → first_of ((suc n, b) ∷ rows) ≡ 0 → (b ≡ false)
    × (first_of rows ≡ 0)
unfolding first_of
row_failed n true rows e = absurd (above n e)
  where
    above : (n : ℕ) → suc n ≡ 0 → ⊥
    above n e = omega arith
row_failed n false rows e = (refl, e)

-- ---- a table in two parts
-- no row's number is 0
abbrev pub Numbered : List (ℕ × Bool) → Type 0
Numbered [] = Unit {0}
Numbered (row ∷ rows) = (0 < row.0) × Numbered rows

-- a number from the first part is the whole table's
pub first_part : (rows more : List (ℕ × Bool)) (n : ℕ) → 0 < n → first_of rows ≡ n → first_of (rows ++ more) ≡ n
unfolding first_of
first_part [] more n h e = absurd (none n h e)
  where
    none : (n : ℕ) → 0 < n → 0 ≡ n → ⊥
    none n h e = omega arith
first_part ((m, true) ∷ rows) more n h e = e
first_part ((m, false) ∷ rows) more n h e = first_part rows more n h e

-- and where that has none, the second part answers
pub second_part : (rows more : List (ℕ × Bool)) → Numbered rows → first_of rows ≡ 0
    → first_of (rows ++ more) ≡ first_of more
unfolding first_of
second_part [] more h e = refl
second_part ((m, true) ∷ rows) more h e = absurd (none m h.0 e)
  where
    none : (n : ℕ) → 0 < n → n ≡ 0 → ⊥
    none n h e = omega arith
second_part ((m, false) ∷ rows) more h e = second_part rows more h.1 e
