-- From the text to what is printed: a refusal, or the listing of the `Affine` that is fitted to the pairs.
-- Specification 12.1. Assumes nothing.
use Rattle.std.specs.Prelude.{ℕ, cond, List, eqb, take, replicate, Result, Ok, Err}
use Rattle.mappings.specs.Mapping.{Fitted}
use Rattle.mappings.specs.declared.mapping.Mapping.{Mapping}
use Rattle.arguments.specs.Method.{affine_code}
use Rattle.fit.specs.Build.{build}
use Rattle.listing.specs.declared.reader.Reader.{Reader}
use Rattle.refusals.specs.Number.{number}
use Rattle.refusals.specs.declared.Refusal.{Refusal}
use Rattle.listing.specs.Reader.{start_reader, fed, finish}
use Rattle.listing.specs.Print.{listing_text, refused_text}

unfoldable pub fitted_text : Fitted → List ℕ
fitted_text f = cond (eqb f.refusal 0) (listing_text f.mapping.coef) (refused_text f.refusal)

-- by what the code's fit answers
abbrev pub text_by : Result Mapping Refusal → List ℕ
text_by (Ok m) = listing_text m.coef
text_by (Err r) = refused_text (number r)

-- the fit of method 0, whatever the picture's size
unfoldable pub fit_text : List ℕ → List ℕ
fit_text arguments = fitted_text (build affine_code arguments 1 1)

unfoldable pub outcome_text : Result ℕ Refusal → List ℕ → List ℕ
outcome_text (Ok n) bytes = fit_text (take n bytes)
outcome_text (Err r) bytes = refused_text (number r)

unfoldable pub answer_text : Reader → List ℕ → List ℕ
answer_text s bytes = outcome_text (finish s) bytes

-- what the program prints for a text, whatever its length
unfoldable pub printed : List ℕ → List ℕ
printed text = answer_text (fed (start_reader, replicate 2048 0) text).0 (fed (start_reader, replicate 2048 0) text).1
