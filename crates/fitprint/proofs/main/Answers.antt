-- `fitprint::main` is safe and ends: what is printed lies within its buffer.
use Rattle.std.proofs.Common.{arith, ◌≡◌, ℕ, ◌≤◌, length, List}
use lib.ListN.{length-take}
use Rattle.listing.proofs.EndLaws.{answer_length}
use Rattle.fitprint.proofs.main.Goals as goal

inside : (n : ℕ) (text out : List ℕ) → n ≡ length text → length text ≤ 124 → length out ≡ 124 → n ≤ length out
inside n text out e h l = omega arith

pub slice_bounds-out-end : goal.slice_bounds-out-end
slice_bounds-out-end c = inside _ _ _ c.answer-n.ensures.0 (answer_length _ _) c.answer-n.array_long

pub slice_bounds-write_all-end : goal.slice_bounds-write_all-end
slice_bounds-write_all-end c =
    simp length-take
    (omega (arith, inside _ _ _ c.answer-n.ensures.0 (answer_length _ _) c.answer-n.array_long))
