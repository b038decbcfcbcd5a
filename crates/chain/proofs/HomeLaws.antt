-- Where the chain's picture lies whole, its bytes are read: at first by the premise, and every event that keeps the
-- words on sharing keeps it so. A whole warp has just written them there; any other call writes apart from them, or
-- nothing. Assumes nothing.
use mathlib.Core.Path.{◌≡◌, sym, ◌∙◌, subst, subst₂}
use mathlib.Core.Bool.{true, false}
use mathlib.Core.List.{List, [], ◌∷◌}
use Prim.Native.Nat.{ℕ, ◌+◌, ◌≤◌, ◌<◌}
use native.Mathlib.Omega.{arith}
use lib.ListN.{length}
use Rattle.distort.specs.Call.{left}
use Rattle.distort.specs.Job.{Image, Call}
use Rattle.chain.specs.Warps.{State, accepted, waits, warped, step}
use Rattle.chain.specs.Memory.{
  Memory,
  read,
  written,
  Asked,
  call_in,
  Event,
  Calls,
  Writes,
  Lies,
  Home,
  Nowhere,
  At,
  World,
  home_after,
  happens,
  lived,
}
use Rattle.chain.specs.Memory.{size, InBuffer, KeptCall, Kept, AllKept, born}
use Rattle.chain.proofs.LengthLaws.{keeps_length}
use Rattle.chain.proofs.ReadLaws.{read_length, read_same, read_back, read_apart}
use Rattle.chain.proofs.TurnLaws.{Makes, Turn, is_refused, is_whole, is_joined, is_alone, turn}
use Rattle.chain.proofs.RefusedLaws.{refused_writes_nothing}

-- ---- the invariant
abbrev pub Holds : Memory → State → Home → Type 0
Holds m s home = (from : ℕ) → home ≡ At from → read m from (length s.image.bytes) ≡ s.image.bytes

abbrev pub AtHome : World → Type 0
AtHome w = Holds w.memory w.chain w.home

-- what is kept of each address of the buffer, at an address
in_buffer : (w : World) (P : ℕ → Type 0) (from : ℕ) → w.home ≡ At from → InBuffer w w.home P → (a : ℕ) → from ≤ a
    → a < from + size w → P a
in_buffer w P from e h = subst (λ (home : Home). InBuffer w home P) e h

-- the same bytes there, the same picture
still : (w : World) (m : Memory)
    → ((from : ℕ) → w.home ≡ At from → (a : ℕ) → from ≤ a → a < from + size w → m a ≡ w.memory a)
    → AtHome w → Holds m w.chain w.home
still w m same home from e = read_same m w.memory from (size w) (same from e) ∙ home from e

pub nowhere : {from : ℕ} → Nowhere ≡ At from → ⊥
nowhere e = let z : ◌≡◌ {A = ℕ} 0 1 = cc in omega arith

-- ---- a call
module _ (w : World) (a : Asked) (kept : KeptCall w a) (home : AtHome w) where
  abbrev c : Call
  c = call_in w.memory a

  abbrev after : Memory
  after = written w.memory a.band (left c)

  made : {t : State} {to : ℕ → Home → Home} → Makes w.chain c t to → Holds after t (to a.band w.home)
      → Holds after (step w.chain c) (home_after w.chain c a.band w.home)
  made k h = subst₂ (λ (s : State) (at : Home). Holds after s at) (sym k.chain) (sym (k.place a.band w.home))
      h

  -- refused: no byte is changed
  nothing : accepted c ≡ false → Holds after w.chain w.home
  unfolding happens
  nothing e = still w after (λ from q b l u. refused_writes_nothing w a e b) home

  -- a whole warp's picture has just been written
  fresh : Holds after (warped w.chain c (left c)) (At a.band)
  fresh from e = subst (λ (at : ℕ). read after at (length (left c)) ≡ left c) (cc)
      (read_back w.memory a.band (left c))

  -- an accepted call's band is apart
  apart : accepted c ≡ true → Holds after (waits w.chain c) w.home
  apart e from q =
      let long : length (left c) ≡ a.band_length = keeps_length c ∙ read_length w.memory a.band a.band_length in
      read_apart w.memory a.band (left c) from (size w)
      (λ b l u k v. in_buffer w (λ (b : ℕ). a.band ≤ b → b < a.band + a.band_length → ⊥) from q (kept.apart e) b l u
      k (omega arith))
      ∙ home from q

  call_home : AtHome (happens w (Calls a))
  unfolding happens
  call_home = by (turn w.chain c)
    where
      by : Turn w.chain c → Holds after (step w.chain c) (home_after w.chain c a.band w.home)
      by (is_refused e k) = made k (nothing e)
      by (is_whole e f k) = made k fresh
      by (is_joined e f k) = made k (λ from q. absurd (nowhere q))
      by (is_alone e k) = made k (apart e)

-- ---- every event, and all of them
pub kept_home : (w : World) (e : Event) → Kept w e → AtHome w → AtHome (happens w e)
unfolding happens
kept_home w (Calls a) kept home = call_home w a kept home
kept_home w (Writes from bytes) kept home =
    still w (written w.memory from bytes)
    (λ at q. in_buffer w (λ (b : ℕ). written w.memory from bytes b ≡ w.memory b) at q kept) home
kept_home w (Lies from) kept home =
    λ at q. subst (λ (k : ℕ). read w.memory k (size w) ≡ w.chain.image.bytes) (cc) kept

pub all_home : (w : World) (events : List Event) → AllKept w events → AtHome w → AtHome (lived w events)
unfolding AllKept lived
all_home w [] kept home = home
all_home w (e ∷ es) kept home = all_home (happens w e) es kept.1 (kept_home w e kept.0 home)

-- ---- at first
pub born_home : (m : Memory) (first : Image) (from : ℕ) → read m from (length first.bytes) ≡ first.bytes
    → AtHome (born m first from)
born_home m first from e at q = subst (λ (k : ℕ). read m k (length first.bytes) ≡ first.bytes) (cc) e
