-- The laws of a text fed byte by byte, each by opening `fed` once: none left, one byte of a chunk, and two texts after
-- each other. Assumes nothing.
use mathlib.Core.Path.{◌≡◌, refl}
use mathlib.Core.List.{List, [], ◌∷◌, ◌++◌}
use Prim.Native.Nat.{ℕ, ◌+◌, ◌≤◌, ◌<◌}
use native.Mathlib.Numerals.{add-one}
use lib.ListN.{length, get_or, drop, drop_of_length-le}
use lib.Seq.{drop-cons}
use Rattle.listing.specs.Reader.{ReaderState, read_byte, fed}

-- the loop over a chunk: before byte k, and past the end
pub fed_next : (s : ReaderState) (bytes : List ℕ) (k : ℕ) → k < length bytes
    → fed s (drop k bytes) ≡ fed (read_byte s (get_or bytes k 0)) (drop (k + 1) bytes)
unfolding fed
fed_next s bytes k h = rw (add-one k, drop-cons bytes k 0 h)

pub fed_end : (s : ReaderState) (bytes : List ℕ) (k : ℕ) → length bytes ≤ k → fed s (drop k bytes) ≡ s
unfolding fed
fed_end s bytes k h = rw (drop_of_length-le bytes h)

-- a text that comes in parts
pub fed_append : (s : ReaderState) (a b : List ℕ) → fed s (a ++ b) ≡ fed (fed s a) b
unfolding fed
fed_append s [] b = refl
fed_append s (x ∷ a) b = fed_append (read_byte s x) a b
