-- `cards::ask` meets its contract: what the call answers, put as it stands. Assumes nothing.
use Prim.Native.Nat.{ℕ}
use mathlib.Core.Path.{◌≡◌}
use mathlib.Core.List.{List}
use Rattle.endian.specs.Bytes.{store_number}
use Rattle.distort.specs.Call.{answer, number_of, store_answer}
use Rattle.distort.specs.Job.{Call}
use Rattle.distort.specs.Answer.{Answer}
use Rattle.cards.proofs.ask.Goals as goal

store-as-answered : (k : Call) (a : Answer) (r : ℕ) (before after : List ℕ) → a ≡ answer k → (r ≡ number_of a)
    × (after ≡ store_answer a before) → (r ≡ number_of (answer k)) × (after ≡ store_answer (answer k) before)
store-as-answered k a r before after e h = rw (← e) h

pub returns : goal.returns
unfolding store_number
returns c =
    let asked = rw (c.code.ensures, c.code-2.ensures) at c.distort-answered.ensures.0 in
    rw (← c.yes.ensures) (store-as-answered _ _ _ _ _ asked c.store_answer.ensures)
