-- The demand of memory gives back that of values: a list of calls is lived from a memory that holds the first picture,
-- the host writes the last picture behind it all, and what lies there is what the demand of values speaks of. Assumes
-- nothing.
use mathlib.Core.Path.{◌≡◌, refl, sym, ap, ◌∙◌, subst}
use mathlib.Core.List.{List, [], ◌∷◌, ◌++◌}
use Prim.Native.Nat.{ℕ, ◌+◌}
use native.Mathlib.Omega.{arith}
use lib.ListN.{length}
use Rattle.distort.specs.Job.{Image, Call}
use Rattle.chain.specs.Demand.{First, Lent, Conditions, ThirdDemand}
use Rattle.exact.specs.Each.{Each}
use Rattle.chain.specs.Memory.{
  Memory,
  written,
  Event,
  Writes,
  Lies,
  At,
  World,
  happens,
  lived,
  AllKept,
  born,
  Claimed,
  MemoryDemand,
}
use Rattle.chain.specs.Warps.{State, after}
use Rattle.chain.proofs.EveryList.{Free, Goes, write_goes, lies_goes, all_goes}
use Rattle.chain.proofs.HomeLaws.{AtHome, all_home, born_home}
use Rattle.chain.proofs.MemoryLaws.{lying_is}
use Rattle.chain.proofs.ReadLaws.{read_back}
use Rattle.chain.proofs.Scenes.{scenes, end}

-- ---- events in two parts
lived_on : (w : World) (es fs : List Event) → lived w (es ++ fs) ≡ lived (lived w es) fs
unfolding lived
lived_on w [] fs = refl
lived_on w (e ∷ es) fs = lived_on (happens w e) es fs

kept_on : (w : World) (es fs : List Event) → AllKept w es → AllKept (lived w es) fs → AllKept w (es ++ fs)
unfolding lived AllKept
kept_on w [] fs a b = b
kept_on w (e ∷ es) fs a b = (a.0, kept_on (happens w e) es fs a.1 b)

-- ---- the last picture, written behind it all
abbrev shown : World → ℕ → List Event
shown w f = Writes f w.chain.image.bytes ∷ (Lies f ∷ [])

module _ (w : World) (f : ℕ) (free : Free w f) where
  shown_goes : Goes w (shown w f) w.chain (f + length w.chain.image.bytes)
  unfolding lived happens AllKept
  shown_goes =
      write_goes f w.chain.image.bytes free
      (lies_goes f (read_back w.memory f w.chain.image.bytes)
      (record { kept = tt; chain = refl; free = λ from e. let z : f ≡ from = cc in omega arith }))

  shown_home : (lived w (shown w f)).home ≡ At f
  unfolding lived happens
  shown_home = refl

module _ (demand : MemoryDemand) (first : Image) (calls : List Call) where
  abbrev m : Memory
  m = written (λ (a : ℕ). 0) 0 first.bytes

  abbrev n : ℕ
  n = length first.bytes

  abbrev w : World
  w = lived (born m first 0) (scenes n calls)

  abbrev events : List Event
  events = scenes n calls ++ shown w (end n calls)

  abbrev u : World
  u = lived (born m first 0) events

  module _ (lent : Each Lent (after first calls).warps) where
    goes : Goes (born m first 0) (scenes n calls) (after first calls) (end n calls)
    goes = all_goes calls (born m first 0) n (λ from e. let z : 0 ≡ from = cc in omega arith) lent

    last : Goes w (shown w (end n calls)) w.chain (end n calls + length w.chain.image.bytes)
    last = shown_goes w (end n calls) goes.free

    kept : AllKept (born m first 0) events
    kept = kept_on (born m first 0) (scenes n calls) (shown w (end n calls)) goes.kept last.kept

    chain : u.chain ≡ after first calls
    chain = ap (λ (v : World). v.chain) (lived_on (born m first 0) (scenes n calls) (shown w (end n calls)))
        ∙ last.chain ∙ goes.chain

    home : u.home ≡ At (end n calls)
    home = ap (λ (v : World). v.home) (lived_on (born m first 0) (scenes n calls) (shown w (end n calls)))
        ∙ shown_home w (end n calls) goes.free

    holds : AtHome u
    holds = all_home (born m first 0) events kept (born_home m first 0 (read_back (λ (a : ℕ). 0) 0 first.bytes))

    covers : First first → Each Conditions (after first calls).warps
        → Claimed first (after first calls) (after first calls).image
    covers is conditions =
        subst (λ (s : State). Claimed first s s.image) chain
        (subst (Claimed first u.chain) (lying_is u (end n calls) holds home)
        ((demand m first 0 events (read_back (λ (a : ℕ). 0) 0 first.bytes) is kept
        (subst (λ (s : State). Each Conditions s.warps) (sym chain) conditions)).1 (end n calls) home))

pub memory_covers : MemoryDemand → ThirdDemand
memory_covers demand first calls is lent conditions = covers demand first calls lent is conditions
