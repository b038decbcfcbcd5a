-- `fast_colours::broad::store_first` meets its contract. The loop's invariant: the pixels passed are in the band, and
-- of the rest the next one's first sample alone may differ.
use Prim.Native.Nat.{ℕ, ◌+◌, ◌*◌, ◌≤◌}
use native.Mathlib.Omega.{arith}
use Rattle.fast_colours.proofs.CoverLaws.{covered_start, covered_next}
use Rattle.fast_colours.proofs.broad.store_first.Goals as goal

room : (p m n : ℕ) → (p + m) * 3 * 4 + 4 ≤ n → (p + m) * 3 * 4 ≤ n
room p m n h = omega arith

pub loop-k-init : goal.loop-k-init
loop-k-init c = covered_start (room c.args.pixel c.args.m _ c.requires.m_in_bounds)

pub loop-k-preserved : goal.loop-k-preserved
loop-k-preserved c =
    covered_next (room c.args.pixel c.args.m _ c.requires.m_in_bounds) c.loop-k.invariant
    c.loop-k-test.true c.broad.result
    (rw (c.broad.ensures, c.weights_at.ensures, c.wide.ensures, c.wide-in-loop-k.ensures))
    c.store_four.ensures
