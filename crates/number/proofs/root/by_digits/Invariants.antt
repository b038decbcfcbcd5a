-- `number::root::by_digits` meets its contract. The invariant is the classic one: the number is the square of the root
-- so far, the remainder and the digits to come (`RootDigits.antt`). After the last turn root and remainder are those of
-- the whole number. Assumes nothing.
use Rattle.std.proofs.Common.{◌-◌, ◌*◌, ◌^◌}
use Rattle.number.proofs.RootDigits.{Digits}
use Rattle.number.proofs.root.by_digits.Given as goal

abbrev pub invariant-loop : goal.invariant-loop
invariant-loop l = Digits (l.n * 2 ^ 52) l.s l.r l.rest (53 - l.counter)
