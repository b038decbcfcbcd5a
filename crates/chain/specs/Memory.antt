-- The third demand of memory: calls read and write ranges of one memory of bytes, and the host writes between them,
-- under the premise on sharing (specification 11.4). Calls come one after the other, and a call's band overlaps nothing
-- that it reads, by the entry's own rule, so that it does not matter in which order it reads and writes. What else is
-- lent to a call, the answer's bytes among it, counts as written by the host. Assumes nothing.
use Rattle.std.specs.Prelude.{ℕ, zero, suc, ◌+◌, ◌-◌, ◌≤◌, ◌<◌, ◌≡◌, Bool, true, ◌&&◌, cond, List, [], ◌∷◌, leb, ltb, length, get_or}
use Rattle.distort.specs.Call.{left}
use Rattle.distort.specs.Job.{Image, Given, Call}
use Rattle.chain.specs.Demand.{First, Conditions, Near}
use Rattle.exact.specs.Each.{Each}
use Rattle.chain.specs.Exact.{exactly, exact_chain}
use Rattle.chain.specs.Warps.{State, start_of, step, accepted, all_rows, completes}

-- ---- memory: a byte at each address
abbrev pub Memory : Type 0
Memory = ℕ → ℕ

-- n bytes from an address on
unfoldable pub read : Memory → ℕ → ℕ → List ℕ
read m from zero = []
read m from (suc n) = m from ∷ read m (suc from) n

-- the address a is one of the n from an address on
unfoldable pub among : ℕ → ℕ → ℕ → Bool
among from n a = leb from a && ltb a (from + n)

-- with these bytes from an address on, and elsewhere as it was
unfoldable pub written : Memory → ℕ → List ℕ → Memory
unfolding among
written m from bytes a = cond (among from (length bytes) a) (get_or bytes (a - from) 0) (m a)

-- ---- what happens
-- a call, by where its picture and its band lie
pub record Asked : Type 0 where
  pub picture : ℕ
  pub picture_length : ℕ
  pub width : ℕ
  pub height : ℕ
  pub channels : ℕ
  pub given : Given
  pub first : ℕ
  pub rows : ℕ
  pub band : ℕ
  pub band_length : ℕ

abbrev pub call_in : Memory → Asked → Call
call_in m a = record {
  image = record {
    bytes = read m a.picture a.picture_length;
    width = a.width;
    height = a.height;
    channels = a.channels;
  };
  given = a.given;
  first = a.first;
  rows = a.rows;
  band = read m a.band a.band_length;
}

-- a call, which writes its band (the bytes of its answer are a write that follows it); the host writes bytes; the host
-- says that the chain's picture, its rows put together or copied, lies whole from an address on
pub data Event : Type 0 where
  Calls : Asked → Event
  Writes : ℕ → List ℕ → Event
  Lies : ℕ → Event

-- where the chain's picture lies whole: nowhere, between the last band of a warp in bands and the time that its rows
-- lie together
pub data Home : Type 0 where
  Nowhere : Home
  At : ℕ → Home

pub record World : Type 0 where
  pub memory : Memory
  pub chain : State
  pub home : Home

-- a whole warp's picture lies in its band, a joined one's nowhere yet
unfoldable pub home_after : State → Call → ℕ → Home → Home
home_after s c band home = cond (accepted c) (cond (all_rows c) (At band) (cond (completes s c) Nowhere home)) home

unfoldable pub happens : World → Event → World
unfolding written home_after
happens w (Calls a) = record {
  memory = written w.memory a.band (left (call_in w.memory a));
  chain = step w.chain (call_in w.memory a);
  home = home_after w.chain (call_in w.memory a) a.band w.home;
}
happens w (Writes from bytes) = record { memory = written w.memory from bytes; chain = w.chain; home = w.home }
happens w (Lies from) = record { memory = w.memory; chain = w.chain; home = At from }

unfoldable pub lived : World → List Event → World
unfolding happens
lived w [] = w
lived w (e ∷ es) = lived (happens w e) es

-- ---- the words on sharing
-- how many bytes the chain's picture has
abbrev pub size : World → ℕ
size w = length w.chain.image.bytes

-- P of each address of the buffer that holds the chain's picture
abbrev pub InBuffer : World → Home → (ℕ → Type 0) → Type 0
InBuffer w Nowhere P = Unit {0}
InBuffer w (At from) P = (a : ℕ) → from ≤ a → a < from + size w → P a

-- no accepted call's band shares a byte with its buffer
abbrev pub Apart : World → Asked → Type 0
Apart w a = InBuffer w w.home (λ (b : ℕ). a.band ≤ b → b < a.band + a.band_length → ⊥)

-- a warp is lent that buffer, with the size and channels from the last warp's answer, or the first picture's
pub record LentHome (w : World) (a : Asked) : Type 0 where
  pub place : w.home ≡ At a.picture
  pub bytes : a.picture_length ≡ size w
  pub width : a.width ≡ w.chain.image.width
  pub height : a.height ≡ w.chain.image.height
  pub channels : a.channels ≡ w.chain.image.channels

pub record KeptCall (w : World) (a : Asked) : Type 0 where
  pub apart : accepted (call_in w.memory a) ≡ true → Apart w a
  pub lent : accepted (call_in w.memory a) ≡ true → all_rows (call_in w.memory a) ≡ true → LentHome w a

-- nobody else writes it; writing the bytes that are there already is no write. And where the host says that the picture
-- lies, it does.
abbrev pub Kept : World → Event → Type 0
Kept w (Calls a) = KeptCall w a
Kept w (Writes from bytes) = InBuffer w w.home (λ (b : ℕ). written w.memory from bytes b ≡ w.memory b)
Kept w (Lies from) = read w.memory from (size w) ≡ w.chain.image.bytes

unfoldable pub AllKept : World → List Event → Type 0
unfolding happens
AllKept w [] = Unit {0}
AllKept w (e ∷ es) = Kept w e × AllKept (happens w e) es

-- ---- the demand, of every memory that holds a first picture, and of everything that happens
abbrev pub born : Memory → Image → ℕ → World
born m first from = record { memory = m; chain = start_of first; home = At from }

-- what lies there, as the chain's picture
abbrev pub lying : World → ℕ → Image
lying w from = record {
  bytes = read w.memory from (size w);
  width = w.chain.image.width;
  height = w.chain.image.height;
  channels = w.chain.image.channels;
}

-- what is claimed of a picture after all that happened
abbrev pub Claimed : Image → State → Image → Type 0
Claimed first s p = Near p (exact_chain (exactly first) s.warps) (length s.warps)

-- of the chain's picture, wherever its rows are, and of what lies where it lies whole
abbrev pub MemoryDemand : Type 0
MemoryDemand =
    (m : Memory) (first : Image) (from : ℕ) (events : List Event) → read m from (length first.bytes) ≡ first.bytes
    → First first
    → AllKept (born m first from) events → Each Conditions (lived (born m first from) events).chain.warps
    → Claimed first (lived (born m first from) events).chain (lived (born m first from) events).chain.image
    × ((to : ℕ) → (lived (born m first from) events).home ≡ At to
    → Claimed first (lived (born m first from) events).chain (lying (lived (born m first from) events) to))
