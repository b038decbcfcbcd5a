-- A list of calls as events of one memory: before each call the host writes, from a free address on, what the call is
-- lent and what its band holds, and where the call is a whole warp says that the chain's picture lies there. Each call
-- finds what was written for it. Assumes nothing.
use mathlib.Core.Path.{◌≡◌, refl, sym, ap, ◌∙◌}
use mathlib.Core.Bool.{Bool, ◌&&◌, cond}
use mathlib.Core.List.{List, [], ◌∷◌, ◌++◌}
use Prim.Native.Nat.{ℕ, ◌+◌}
use lib.ListN.{length, length-append, take, drop}
use lib.Seq.{take_at, drop_at}
use Rattle.distort.specs.Job.{Call}
use Rattle.chain.specs.Memory.{Memory, read, written, Asked, call_in, Event, Calls, Writes, Lies}
use Rattle.chain.specs.Warps.{accepted, all_rows}
use Rattle.chain.proofs.ApartLaws.{asking}
use Rattle.chain.proofs.ReadLaws.{read_length, read_on, read_back}

-- ---- the events of one call, from a free address on
abbrev pub placed : ℕ → Call → Asked
placed f c = asking f (length c.image.bytes) c.image c.given c.first c.rows
    (f + length c.image.bytes) (length c.band)

abbrev pub behind : ℕ → Call → ℕ
behind f c = f + length c.image.bytes + length c.band

abbrev pub said : Bool → ℕ → List Event → List Event
said t f es = cond t (Lies f ∷ es) es

unfoldable pub scenes : ℕ → List Call → List Event
scenes f [] = []
scenes f (c ∷ cs) = Writes f (c.image.bytes ++ c.band)
    ∷ said (accepted c && all_rows c) f (Calls (placed f c) ∷ scenes (behind f c) cs)

unfoldable pub end : ℕ → List Call → ℕ
end f [] = f
end f (c ∷ cs) = end (behind f c) cs

-- what was written there is what the call finds
module _ (m : Memory) (f : ℕ) (c : Call) where
  abbrev M : Memory
  M = written m f (c.image.bytes ++ c.band)

  found_both : read M f (length c.image.bytes)
      ++ read M (f + length c.image.bytes) (length c.band) ≡ c.image.bytes ++ c.band
  found_both =
      sym (read_on M f (length c.image.bytes) (length c.band))
      ∙ ap (read M f) (sym (length-append c.image.bytes c.band))
      ∙ read_back m f (c.image.bytes ++ c.band)

  found_image : read M f (length c.image.bytes) ≡ c.image.bytes
  found_image =
      let n : ℕ = length c.image.bytes in
      sym (take_at (read M f n) (read M (f + n) (length c.band)) n (read_length M f n)) ∙ ap (take n) found_both
      ∙ take_at c.image.bytes c.band n refl

  found_band : read M (f + length c.image.bytes) (length c.band) ≡ c.band
  found_band =
      let n : ℕ = length c.image.bytes in
      sym (drop_at (read M f n) (read M (f + n) (length c.band)) n (read_length M f n)) ∙ ap (drop n) found_both
      ∙ drop_at c.image.bytes c.band n refl

  pub found : call_in M (placed f c) ≡ c
  found = λ i. record {
    image = record {
      bytes = found_image i;
      width = c.image.width;
      height = c.image.height;
      channels = c.image.channels;
    };
    given = c.given;
    first = c.first;
    rows = c.rows;
    band = found_band i;
  }
