-- The answer of a distort call: of an accepted one the output's size, where it lies, its channels and the matte pixels
-- of the band; of a refused one its number (specification 1.1, 2). `answered` and `numbered` say which of them an
-- answer of the code is. Assumes nothing.
use Rattle.std.specs.Prelude.{ℕ, ℤ, Result, Ok, Err}
use Rattle.refusals.specs.Number.{number}
use Rattle.refusals.specs.declared.Refusal.{Refusal}
use Rattle.distort.specs.declared.answer.Output.{Output}

pub data Answer : Type 0 where
  Accepted : (width height : ℕ) → (x y : ℤ) → (channels matte-pixels : ℕ) → Answer
  Refused : ℕ → Answer

-- by any number that a refusal has
abbrev pub numbered : Result Output ℕ → Answer
numbered (Ok o) = Accepted o.width o.height o.x o.y o.channels o.matte_pixels
numbered (Err number) = Refused number

-- by a row of the refusal table
abbrev pub answered : Result Output Refusal → Answer
answered (Ok o) = numbered (Ok o)
answered (Err r) = numbered (Err (number r))
