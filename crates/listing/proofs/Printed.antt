-- What is printed for a text of any length: refusal 4 for every text that is not of specification 12.1, 5 where it
-- does and a number is too large, and else what the fit of its pairs gives. `kept` of ReadBack says what those
-- arguments are. Assumes nothing.
use mathlib.Core.Path.{◌≡◌, ap, ◌∙◌}
use mathlib.Core.List.{List}
use Prim.Native.Nat.{ℕ, ◌*◌}
use lib.ListN.{length, take, replicate}
use Rattle.std.specs.Prelude.{Result, Ok, Err}
use Rattle.refusals.specs.declared.Refusal.{Refusal}
use Rattle.refusals.specs.declared.Refusal.TheVariants as Refused
use Rattle.listing.specs.Reader.{ReaderState, start_reader, fed, finish}
use Rattle.listing.specs.Print.{refused_text}
use Rattle.listing.specs.Answer.{fit_text, outcome_text, answer_text, printed}
use Rattle.listing.specs.Text.{AllWithin, text, Described}
use Rattle.listing.proofs.ReadBack.{accepted, refused}
use Rattle.listing.proofs.OnlyThese.{others_refused}

-- the reader's state at the end, from a buffer of zeros
abbrev pub state : List ℕ → ReaderState
state input = fed (start_reader, replicate 2048 0) input

outcome : (input : List ℕ) (o : Result ℕ Refusal) → finish (state input).0 ≡ o → printed input ≡ outcome_text o (state input).1
unfolding printed answer_text
outcome input o e = ap (λ (p : Result ℕ Refusal). outcome_text p (state input).1) e

pub printed_other : (input : List ℕ) → (Described input → ⊥) → printed input ≡ refused_text 4
unfolding outcome_text
printed_other input n = outcome input (Err Refused.Count) (others_refused input _ n)

module _ (input : List ℕ) (d : Described input) where
  by_text : (o : Result ℕ Refusal) → finish (state (text d.order d.pairs)).0 ≡ o → finish (state input).0 ≡ o
  by_text o e = ap (λ (t : List ℕ). finish (state t).0) d.is ∙ e

  pub printed_large : (AllWithin d.pairs → ⊥) → printed input ≡ refused_text 5
  unfolding outcome_text
  printed_large n = outcome input (Err Refused.Number)
      (by_text _ (refused d.order d.is_one d.pairs d.proper d.some d.room _ n))

  pub printed_fit : AllWithin d.pairs → printed input ≡ fit_text (take (32 * length d.pairs) (state input).1)
  unfolding outcome_text
  printed_fit w = outcome input (Ok (32 * length d.pairs))
      (by_text _ (accepted d.order d.is_one d.pairs d.proper d.some d.room _ w))
