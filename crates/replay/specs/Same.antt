-- Whether two lists of bytes are as long and hold the same. Assumes nothing.
use Rattle.std.specs.Prelude.{ℕ, Bool, true, ◌&&◌, List, eqb, length, get_or}
use Rattle.exact.specs.Loop.{up_to}

-- at k too
unfoldable pub still : List ℕ → List ℕ → ℕ → Bool → Bool
still a b k t = t && eqb (get_or a k 0) (get_or b k 0)

unfoldable pub same : List ℕ → List ℕ → Bool
same a b = eqb (length a) (length b) && up_to (still a b) 0 (length a) true
