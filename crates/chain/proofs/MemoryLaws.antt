-- The third demand of memory from that of values: the calls among the events are a list whose machine is the world's,
-- its warps are lent what they should be, and what lies at the picture's place is the machine's picture. Provides:
-- `calls_of`, `lived_run`; `chain_near` (of the chain's picture, wherever its rows are), `memory_from_values`,
-- `memory_demand`, `memory_no_warps`. Assumes nothing.
use mathlib.Core.Path.{◌≡◌, refl, sym, ap, ◌∙◌, subst}
use mathlib.Core.List.{List, [], ◌∷◌}
use Prim.Native.Nat.{ℕ}
use lib.ListN.{length}
use Rattle.distort.specs.Job.{Image, Call}
use Rattle.chain.specs.Demand.{First, Lent, Conditions, ThirdDemand}
use Rattle.exact.specs.Each.{Each}
use Rattle.chain.specs.Memory.{
  Memory,
  read,
  call_in,
  Event,
  Calls,
  Writes,
  Lies,
  At,
  World,
  happens,
  lived,
  AllKept,
  born,
  lying,
  Claimed,
  MemoryDemand,
}
use Rattle.chain.specs.Warps.{State, run, after}
use Rattle.chain.proofs.Chain.{third_demand, no_warps}
use Rattle.chain.proofs.HomeLaws.{AtHome, all_home, born_home}
use Rattle.chain.proofs.LentLaws.{all_lent}

-- ---- the calls, each with what it finds in memory
pub calls_of : World → List Event → List Call
calls_of w [] = []
calls_of w (Calls a ∷ es) = call_in w.memory a ∷ calls_of (happens w (Calls a)) es
calls_of w (Writes from bytes ∷ es) = calls_of (happens w (Writes from bytes)) es
calls_of w (Lies from ∷ es) = calls_of (happens w (Lies from)) es

pub lived_run : (w : World) (events : List Event) → (lived w events).chain ≡ run w.chain (calls_of w events)
unfolding calls_of lived run happens
lived_run w [] = refl
lived_run w (Calls a ∷ es) = lived_run (happens w (Calls a)) es
lived_run w (Writes from bytes ∷ es) = lived_run (happens w (Writes from bytes)) es
lived_run w (Lies from ∷ es) = lived_run (happens w (Lies from)) es

-- ---- what lies at home is the chain's picture
pub lying_is : (w : World) (to : ℕ) → AtHome w → w.home ≡ At to → lying w to ≡ w.chain.image
lying_is w to home e = λ i. record {
  bytes = home to e i;
  width = w.chain.image.width;
  height = w.chain.image.height;
  channels = w.chain.image.channels;
}

-- ---- the demand
module _ (third : ThirdDemand) where
  module _ (m : Memory) (first : Image) (from : ℕ) (events : List Event) where
    abbrev w : World
    w = lived (born m first from) events

    -- of the chain's picture, wherever its rows are
    pub chain_near : read m from (length first.bytes) ≡ first.bytes → First first
        → AllKept (born m first from) events
        → Each Conditions w.chain.warps → Claimed first w.chain w.chain.image
    chain_near there is kept conditions =
        subst (λ (s : State). Claimed first s s.image) (sym same)
        (third first calls is (subst (λ (s : State). Each Lent s.warps) same lent)
        (subst (λ (s : State). Each Conditions s.warps) same conditions))
      where
        calls : List Call
        calls = calls_of (born m first from) events

        same : w.chain ≡ after first calls
        same = lived_run (born m first from) events

        lent : Each Lent w.chain.warps
        lent = all_lent (born m first from) events kept (born_home m first from there) tt

  pub memory_from_values : MemoryDemand
  memory_from_values m first from events there is kept conditions =
      let w = lived (born m first from) events in
      let home : AtHome w = all_home (born m first from) events kept (born_home m first from there) in
      let near = chain_near m first from events there is kept conditions in
      (near, λ to e. subst (Claimed first w.chain) (sym (lying_is w to home e)) near)

pub memory_demand : MemoryDemand
memory_demand = memory_from_values third_demand

-- with no warps the first picture lies there, byte for byte
pub memory_no_warps : (m : Memory) (first : Image) (from : ℕ) (events : List Event)
    → read m from (length first.bytes) ≡ first.bytes
    → AllKept (born m first from) events → (lived (born m first from) events).chain.warps ≡ []
    → (to : ℕ) → (lived (born m first from) events).home ≡ At to → lying (lived (born m first from) events) to ≡ first
memory_no_warps m first from events there kept empty to e =
    let w = lived (born m first from) events in
    let calls : List Call = calls_of (born m first from) events in
    let same : w.chain ≡ after first calls = lived_run (born m first from) events in
    let home : AtHome w = all_home (born m first from) events kept (born_home m first from there) in
    lying_is w to home e ∙ ap (λ (s : State). s.image) same
    ∙ (no_warps first calls (sym (ap (λ (s : State). s.warps) same) ∙ empty)).0
