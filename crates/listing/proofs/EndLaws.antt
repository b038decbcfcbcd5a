-- The arguments of a text that is accepted lie within the reader's bytes, and what is printed within its buffer: by the
-- cases of the outcome. Assumes nothing.
use mathlib.Core.Path.{◌≡◌, refl}
use mathlib.Core.Bool.{Bool, true, false, not, ◌||◌, cond, true≢false}
use Prim.Native.Nat.{ℕ, ◌-◌, ◌*◌, ◌≤◌}
use native.Mathlib.Omega.{arith}
use borrow.Author.Tests.{ltb-false}
use mathlib.Core.List.{List}
use lib.Dec.{eqb, ltb}
use lib.ListN.{length, take}
use Rattle.mappings.specs.declared.mapping.Mapping.{Mapping}
use Rattle.mappings.specs.Mapping.{Fitted, fitted_by, refused}
use Rattle.arguments.specs.Method.{affine_code}
use Rattle.fit.specs.Build.{build}
use Rattle.listing.specs.declared.reader.Reader.{Reader}
use Rattle.std.specs.Prelude.{Result, Ok, Err}
use Rattle.refusals.specs.Number.{number}
use Rattle.refusals.specs.declared.Refusal.{Refusal}
use Rattle.refusals.specs.declared.Refusal.TheVariants as Refused
use Rattle.listing.specs.Reader.{is_empty, bad_form, finish}
use Rattle.listing.specs.Print.{listing_text, refused_text}
use Rattle.listing.specs.Answer.{fitted_text, text_by, fit_text, outcome_text, answer_text}
use Rattle.listing.proofs.PrintLaws.{refused_length, listing_length}

-- n bytes at most, where there are arguments
abbrev pub AtMost : ℕ → Result ℕ Refusal → Type 0
AtMost m (Ok n) = n ≤ m
AtMost m (Err r) = Unit {0}

chosen : (bad large : Bool) (m n : ℕ) → (bad ≡ false → n ≤ m)
    → AtMost m (cond bad (Err Refused.Count) (cond large (Err Refused.Number) (Ok n)))
chosen true large m n h = tt
chosen false true m n h = tt
chosen false false m n h = h refl

over : (a b c d : Bool) → a || b || c || d ≡ false → d ≡ false
over false false false d e = e
over true b c d e = absurd (true≢false e)
over false true c d e = absurd (true≢false e)
over false false true d e = absurd (true≢false e)

pub finish_at_most : (s : Reader) → AtMost 2048 (finish s)
unfolding finish bad_form
finish_at_most s = chosen (bad_form s) s.large 2048 (32 * (s.lines - 1))
    (λ e. few (over (not (is_empty s.word)) (not (eqb s.column 0)) (ltb s.lines 2) (ltb 65 s.lines) e))
  where
    few : ltb 65 s.lines ≡ false → 32 * (s.lines - 1) ≤ 2048
    few e = omega (arith, ltb-false 65 s.lines e)

-- what is printed by what the code's fit answers: no refusal's number is 0
pub text_fitted : (f : Result Mapping Refusal) → text_by f ≡ fitted_text (fitted_by f)
unfolding fitted_text refused
text_fitted (Ok m) = refl
text_fitted (Err Refused.Size) = refl
text_fitted (Err Refused.Stock) = refl
text_fitted (Err Refused.Code) = refl
text_fitted (Err Refused.Count) = refl
text_fitted (Err Refused.Number) = refl
text_fitted (Err Refused.Order) = refl
text_fitted (Err Refused.Few) = refl
text_fitted (Err Refused.Degenerate) = refl
text_fitted (Err Refused.Window) = refl
text_fitted (Err Refused.Rows) = refl
text_fitted (Err Refused.Tray) = refl

-- ---- what is printed has at most 124 bytes

fitted_length : (f : Fitted) → length (fitted_text f) ≤ 124
unfolding fitted_text
fitted_length f = either (eqb f.refusal 0) (listing_text f.mapping.coef) (refused_text f.refusal)
    (listing_length f.mapping.coef) (refused_length f.refusal)
  where
    either : (t : Bool) (a b : List ℕ) → length a ≡ 124 → length b ≡ 10 → length (cond t a b) ≤ 124
    either true a b e d = omega (arith, e)
    either false a b e d = omega (arith, d)

outcome_length : (o : Result ℕ Refusal) (bytes : List ℕ) → length (outcome_text o bytes) ≤ 124
unfolding outcome_text fit_text
outcome_length (Ok n) bytes = fitted_length (build affine_code (take n bytes) 1 1)
outcome_length (Err r) bytes = omega (arith, refused_length (number r))

pub answer_length : (s : Reader) (bytes : List ℕ) → length (answer_text s bytes) ≤ 124
unfolding answer_text
answer_length s bytes = outcome_length (finish s) bytes
