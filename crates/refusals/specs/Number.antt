-- The number of each refusal (specification 2), and the number that an answer stands for. Definitions count refusals by
-- their numbers; a contract equates the number of what the code answers with them. Assumes nothing.
use Rattle.std.specs.Prelude.{ℕ, Result, Ok, Err}
use Rattle.refusals.specs.declared.Refusal.{Refusal}
use Rattle.refusals.specs.declared.Refusal.TheVariants.{Size, Stock, Code, Count, Number, Order, Few, Degenerate, Window, Rows, Tray}

abbrev pub number : Refusal → ℕ
number Size = 1
number Stock = 2
number Code = 3
number Count = 4
number Number = 5
number Order = 6
number Few = 7
number Degenerate = 8
number Window = 9
number Rows = 10
number Tray = 11

-- 0 where the answer is no refusal
abbrev pub told : {A : Type 0} → Result A Refusal → ℕ
told (Ok x) = 0
told (Err r) = number r
