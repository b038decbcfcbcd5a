-- A name reader's answer as one number (specification 1.2): a code is itself, and a refusal is its number below 0. So
-- code 3 and refusal 3 are told apart. Assumes nothing.
use Rattle.std.specs.Prelude.{ℕ, ℤ, pos, neg_ℤ, Option, Some, None}
use Rattle.names.specs.Names.{named_refusal}

abbrev pub named_answer : Option ℕ → ℤ
named_answer (Some n) = pos n
named_answer None = neg_ℤ (pos (named_refusal None))
