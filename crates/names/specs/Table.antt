-- A table of names as one text, which is how the code keeps it: each name ends in a comma, or in a bar where the name
-- after it has the same code. Codes count from 0. Assumes nothing.
use Rattle.std.specs.Prelude.{ℕ, ◌+◌, Bool, true, false, cond, List, [], ◌∷◌, ◌++◌, eqb}

-- a comma (44) or a bar (124)
unfoldable pub ends_name : ℕ → Bool
ends_name b = cond (eqb b 44) true (eqb b 124)

-- after a byte: the name's first bytes, none after an end, and the code, one more after a comma
unfoldable pub next_name : List ℕ → ℕ → List ℕ
next_name name b = cond (ends_name b) [] (name ++ b ∷ [])

unfoldable pub next_code : ℕ → ℕ → ℕ
next_code n b = cond (eqb b 44) (n + 1) n

-- an entry in front, where there is one
abbrev pub entry_if : Bool → List ℕ × ℕ → List (List ℕ × ℕ) → List (List ℕ × ℕ)
entry_if true entry table = entry ∷ table
entry_if false entry table = table

-- the entries of a text that comes after a name's first bytes, with that name's code: one recursive call, so that it
-- computes fast
unfoldable pub split : List ℕ → ℕ → List ℕ → List (List ℕ × ℕ)
split name n [] = []
split name n (b ∷ text) = entry_if (ends_name b) (name, n) (split (next_name name b) (next_code n b) text)

unfoldable pub entries : List ℕ → List (List ℕ × ℕ)
entries text = split [] 0 text
