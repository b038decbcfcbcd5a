-- The exported call: the number that it returns, and every byte of band and answer afterwards, for refused calls too.
-- Specification 1.1. Assumes nothing.
use Rattle.std.specs.Prelude.{ℕ, List}
use Rattle.distort.specs.Call.{answer, left, number_of, store_answer}
use Rattle.distort.specs.Job.{Call}

-- the number, the band, and the answer's bytes, which were `before`
abbrev pub called : Call → List ℕ → ℕ × (List ℕ × List ℕ)
called c before = (number_of (answer c), (left c, store_answer (answer c) before))
