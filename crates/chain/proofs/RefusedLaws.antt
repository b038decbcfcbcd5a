-- A refused call changes nothing: its band afterwards is what was read there, so no byte of memory moves, and neither
-- the machine nor the picture's place does. So it may stand anywhere among the events, with its picture and its band
-- anywhere. Assumes nothing.
use mathlib.Core.Path.{◌≡◌, sym, ap, ◌∙◌, fun_ext, subst}
use mathlib.Core.Bool.{true, false, false≢true}
use mathlib.Core.List.{List, ◌∷◌}
use Prim.Native.Nat.{ℕ}
use Rattle.distort.specs.Call.{left}
use Rattle.distort.specs.Job.{Call}
use Rattle.chain.specs.Warps.{accepted}
use Rattle.chain.specs.Memory.{written, Asked, call_in, Event, Calls, World, happens, lived, AllKept}
use Rattle.chain.proofs.ReadLaws.{write_back}
use Rattle.chain.proofs.TurnLaws.{refused_makes}

pub refused_left : (c : Call) → accepted c ≡ false → left c ≡ c.band
unfolding accepted left
refused_left c e = rw e

module _ (w : World) (a : Asked) (refused : accepted (call_in w.memory a) ≡ false) where
  pub refused_writes_nothing : (b : ℕ) → (happens w (Calls a)).memory b ≡ w.memory b
  unfolding happens
  refused_writes_nothing b =
      ap (λ (bytes : List ℕ). written w.memory a.band bytes b) (refused_left (call_in w.memory a) refused)
      ∙ write_back w.memory a.band a.band_length b

  pub refused_changes_nothing : happens w (Calls a) ≡ w
  unfolding happens
  refused_changes_nothing = λ i. record {
    memory = fun_ext refused_writes_nothing i;
    chain = (refused_makes w.chain (call_in w.memory a) refused).chain i;
    home = (refused_makes w.chain (call_in w.memory a) refused).place a.band w.home i;
  }

  pub refused_anywhere : (events : List Event) → lived w (Calls a ∷ events) ≡ lived w events
  unfolding lived
  refused_anywhere events = ap (λ (v : World). lived v events) refused_changes_nothing

  pub refused_kept : (events : List Event) → AllKept w events → AllKept w (Calls a ∷ events)
  unfolding AllKept
  refused_kept events kept = (
    record { apart = λ e. absurd (never e); lent = λ e. absurd (never e) },
    subst (λ (v : World). AllKept v events) (sym refused_changes_nothing) kept,
  )
    where
      never : accepted (call_in w.memory a) ≡ true → ⊥
      never e = false≢true (sym refused ∙ e)
