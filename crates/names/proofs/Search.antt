-- A search through a text of names, one byte a turn: what is left of the table at a byte, after a name's first bytes,
-- is the table left at the next byte, with the name in front where it ends. Assumes nothing.
use Rattle.std.specs.Prelude.{Some, None}
use mathlib.Core.Path.{◌≡◌, refl, ap}
use mathlib.Core.Bool.{Bool, true, false, cond, true≢false}
use mathlib.Core.List.{List, [], ◌∷◌, ◌++◌}
use Prim.Native.Nat.{ℕ, suc, ◌+◌, ◌-◌, ◌≤◌, ◌<◌}
use native.Mathlib.Numerals.{add-one}
use native.Mathlib.Omega.{arith}
use lib.Dec.{eqb}
use lib.ListN.{length, get_or, take, drop, length-drop, drop_of_length-le}
use lib.Seq.{drop-cons, take-suc, get_or-drop}
use Rattle.names.specs.Names.{same_name, lookup}
use Rattle.names.specs.Table.{ends_name, next_name, next_code, split, entries}

-- the text from `from` up to k
abbrev pub part : List ℕ → ℕ → ℕ → List ℕ
part text from k = take (k - from) (drop from text)

-- the entries that are left at k, in a name that started at `from` and has the code n
unfoldable pub left : List ℕ → ℕ → ℕ → ℕ → List (List ℕ × ℕ)
left text from n k = split (part text from k) n (drop k text)

pub all : (text s : List ℕ) → lookup (entries text) s ≡ lookup (left text 0 0 0) s
unfolding entries left
all text s = refl

pub over : (text : List ℕ) (from n k : ℕ) (s : List ℕ) → length text ≤ k → lookup (left text from n k) s ≡ None
unfolding left split lookup
over text from n k s h = rw (drop_of_length-le text h)

at_most : (t : Bool) (n : ℕ) → cond t (n + 1) n ≤ n + 1
at_most true n = omega arith
at_most false n = omega arith

-- a code grows by one at most
pub next_code_le : (n b r : ℕ) → r ≡ next_code n b → r ≤ n + 1
unfolding next_code
next_code_le n b r e = rw e (at_most (eqb b 44) n)

not_comma : (t u : Bool) (n : ℕ) → cond t true u ≡ false → cond t (n + 1) n ≡ n
not_comma true u n e = absurd (true≢false e)
not_comma false u n e = refl

-- inside a name the code stays
code_stays : (n b : ℕ) → ends_name b ≡ false → next_code n b ≡ n
unfolding ends_name next_code
code_stays n b e = not_comma (eqb b 44) (eqb b 124) n e

one_more : (from k : ℕ) → from ≤ k → k + 1 - from ≡ suc (k - from)
one_more from k h = omega arith

none_left : (k : ℕ) → k - k ≡ 0
none_left k = omega arith

module _ (text : List ℕ) (from n k : ℕ) (h : from ≤ k) (g : k < length text) where
  grown : part text from (k + 1) ≡ part text from k ++ get_or text k 0 ∷ []
  grown =
      let back : from + (k - from) ≡ k = omega arith in
      let inside : k - from < length (drop from text) = omega (arith, length-drop from text) in
      rw (one_more from k h, take-suc (drop from text) (k - from) 0 inside, get_or-drop from text (k - from) 0, back)

  left_inside : ends_name (get_or text k 0) ≡ false → left text from n k ≡ left text from n (k + 1)
  unfolding left split next_name
  left_inside e = rw (grown, add-one k, drop-cons text k 0 g, code_stays n (get_or text k 0) e, e)

  left_end : ends_name (get_or text k 0) ≡ true → left text from n k ≡ (part text from k, n)
      ∷ left text (k + 1) (next_code n (get_or text k 0)) (k + 1)
  unfolding left split next_name
  left_end e = rw (none_left (k + 1), add-one k, drop-cons text k 0 g, e)

  -- the turn's three ways, for a lookup of s: inside a name, at the end of the name that s is, at the end of another
  module _ (s : List ℕ) where
    pub inside : ends_name (get_or text k 0) ≡ false → lookup (left text from n k) s ≡ lookup (left text from n (k + 1)) s
    inside e = ap (λ (t : List (List ℕ × ℕ)). lookup t s) (left_inside e)

    pub found : ends_name (get_or text k 0) ≡ true → same_name s (part text from k) ≡ true
        → lookup (left text from n k) s ≡ Some n
    unfolding lookup
    found e w = rw (left_end e, w)

    pub passed : ends_name (get_or text k 0) ≡ true → same_name s (part text from k) ≡ false
        → lookup (left text from n k) s ≡ lookup (left text (k + 1) (next_code n (get_or text k 0)) (k + 1)) s
    unfolding lookup
    passed e w = rw (left_end e, w)
