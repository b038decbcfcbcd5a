-- The exported call hands on what the call answers and leaves, whatever way its numbers took. Assumes nothing.
use mathlib.Core.Path.{◌≡◌, ap, ◌∙◌}
use mathlib.Core.List.{List}
use Prim.Native.Nat.{ℕ}
use Rattle.distort.specs.Call.{answer, left, number_of, store_answer}
use Rattle.distort.specs.Job.{Call}
use Rattle.distort.specs.Answer.{Answer}
use Rattle.dihyravo.specs.Called.{called}

number_of_law : {c d : Call} → c ≡ d → {a : Answer} {n : ℕ} → a ≡ answer c → n ≡ number_of a → n ≡ number_of (answer d)
number_of_law p e f = f ∙ ap number_of (e ∙ ap answer p)

band_of : {c d : Call} → c ≡ d → {band : List ℕ} → band ≡ left c → band ≡ left d
band_of p e = e ∙ ap left p

answer_of_law : {c d : Call} → c ≡ d → {a : Answer} (before : List ℕ) {after : List ℕ} → a ≡ answer c
    → after ≡ store_answer a before → after ≡ store_answer (answer d) before
answer_of_law p before e f = f ∙ ap (λ (x : Answer). store_answer x before) (e ∙ ap answer p)

pub all_of : {c d : Call} → c ≡ d → {a : Answer} {n : ℕ} {band : List ℕ} (before : List ℕ) {after : List ℕ}
    → a ≡ answer c → band ≡ left c → n ≡ number_of a → after ≡ store_answer a before
    → (n, (band, after)) ≡ called d before
all_of p before e f g h = λ i. (number_of_law p e g i, (band_of p f i, answer_of_law p before e h i))
