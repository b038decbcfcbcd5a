-- Ranges apart by their ends, as the examples have them: a band or a host's bytes before the chain's picture, or behind
-- it. Assumes nothing.
use mathlib.Core.Path.{◌≡◌, subst⁻¹}
use mathlib.Core.Logic.{◌⊎◌, ⊎_elim}
use mathlib.Core.List.{List}
use Prim.Native.Nat.{ℕ, ◌+◌, ◌≤◌, ◌<◌}
use native.Mathlib.Omega.{arith}
use lib.ListN.{length}
use Rattle.distort.specs.Job.{Image, Given}
use Rattle.chain.specs.Memory.{written, Asked, Home, At, World, size, InBuffer, Apart}
use Rattle.chain.proofs.ReadLaws.{written_elsewhere}

-- a call that finds so many bytes of a picture like p at an address; then its rows, and where they go
abbrev pub asking : ℕ → ℕ → Image → Given → ℕ → ℕ → ℕ → ℕ → Asked
asking from long p g row rows band bandLong = record {
  picture = from;
  picture_length = long;
  width = p.width;
  height = p.height;
  channels = p.channels;
  given = g;
  first = row;
  rows = rows;
  band = band;
  band_length = bandLong;
}

-- a band that ends before the buffer, or begins behind it
pub apart_by : (w : World) (a : Asked) (from : ℕ) → w.home ≡ At from → (a.band + a.band_length ≤ from)
    ⊎ (from + size w ≤ a.band) → Apart w a
apart_by w a from e o =
    subst⁻¹ (λ (home : Home). InBuffer w home (λ (b : ℕ). a.band ≤ b → b < a.band + a.band_length → ⊥)) e
    (λ b l u k v. ⊎_elim (λ (h : a.band + a.band_length ≤ from). omega arith)
    (λ (h : from + size w ≤ a.band). omega arith) o)

-- the host's bytes end before the buffer, or begin behind it
pub write_by : (w : World) (at : ℕ) (bytes : List ℕ) (from : ℕ) → w.home ≡ At from → (at + length bytes ≤ from)
    ⊎ (from + size w ≤ at)
    → InBuffer w w.home (λ (b : ℕ). written w.memory at bytes b ≡ w.memory b)
write_by w at bytes from e o =
    subst⁻¹ (λ (home : Home). InBuffer w home (λ (b : ℕ). written w.memory at bytes b ≡ w.memory b)) e
    (λ b l u. written_elsewhere w.memory at bytes b
    (λ k v. ⊎_elim (λ (h : at + length bytes ≤ from). omega arith) (λ (h : from + size w ≤ at). omega arith) o))
