-- The loop over the pairs as the code leaves it: a turn is the case of the definition that its test takes, and once a
-- pair is the answer no turn changes that. Assumes nothing.
use mathlib.Core.Path.{◌≡◌, refl, sym, ap, ◌∙◌}
use mathlib.Core.Bool.{true, false}
use Prim.Native.Nat.{ℕ, ◌+◌, ◌*◌, ◌≤◌, ◌<◌}
use native.Mathlib.Omega.{arith}
use lib.Ieee.{Float, lt}
use Rattle.exact.specs.Double.{◌⊕◌, ◌⊖◌, ◌⊗◌, least_divisor}
use Rattle.exact.specs.Loop.{up_to}
use Rattle.exact.proofs.Loop.{up_to_next, up_to_last, up_to_stay}
use Rattle.exact.specs.Vector.{Vector, at}
use Rattle.point.specs.Point.{point}
use Rattle.point.specs.Course.{Course, on, out, turn, ended}
use Rattle.inverse.specs.Shepards.{PairSums, d2, wgt, add_pair, pair_turn, zero_sums, moved_by, of_pairs}

-- with the sums s after j pairs
module _ (c : Vector) (x y : Float) (s : PairSums) (j : ℕ) (h : on s ≡ up_to (pair_turn c x y) 0 j (on zero_sums)) where
  next : {w : Course PairSums} → add_pair c x y (4 * j) s ≡ w → w ≡ up_to (pair_turn c x y) 0 (j + 1) (on zero_sums)
  unfolding pair_turn turn
  next e = sym e ∙ up_to_next (pair_turn c x y) 0 (on zero_sums) j (omega arith) h

  pub pair_adds : lt (d2 c x y (4 * j)) least_divisor ≡ false
      → on (record {
        su = s.su ⊕ wgt c x y (4 * j) ⊗ (at c (4 * j) ⊖ at c (4 * j + 2));
        sv = s.sv ⊕ wgt c x y (4 * j) ⊗ (at c (4 * j + 1) ⊖ at c (4 * j + 3));
        sw = s.sw ⊕ wgt c x y (4 * j);
      }) ≡ up_to (pair_turn c x y) 0 (j + 1) (on zero_sums)
  unfolding add_pair
  pair_adds t = next (rw t)

  pub pair_leaves : (n : ℕ) → j < n → lt (d2 c x y (4 * j)) least_divisor ≡ true
      → point (at c (4 * j)) (at c (4 * j + 1)) ≡ of_pairs c x y n
  unfolding of_pairs ended add_pair pair_turn turn
  pair_leaves n l t =
      ap (ended (moved_by x y))
      (up_to_stay (pair_turn c x y) 0 (on zero_sums) (j + 1) n {y = out (point (at c (4 * j)) (at c (4 * j + 1)))}
      (omega arith) (omega arith) (λ i. refl) (next (rw t)))

  pub pairs_end : (n : ℕ) → j ≤ n → n ≤ j → moved_by x y s ≡ of_pairs c x y n
  unfolding of_pairs ended
  pairs_end n a b = ap (ended (moved_by x y)) (up_to_last (pair_turn c x y) 0 (on zero_sums) j n a b h)
