-- Shepards: the mean of the pairs' shifts, each weighted by 1 over its squared distance; a pair that lies at (x, y)
-- gives its own u, v. A pair is four coefficients: u, v, x, y. Specification 7. Assumes nothing.
use Rattle.std.specs.Prelude.{ℕ, ◌+◌, ◌*◌, ◌/◌, min, cond, Float}
use Rattle.std.specs.Float.Ieee.{lt}
use Rattle.exact.specs.Limits.{most_pairs}
use Rattle.exact.specs.Double.{◌⊕◌, ◌⊖◌, ◌⊗◌, ◌⊘◌, least_divisor, one}
use Rattle.exact.specs.Loop.{up_to}
use Rattle.exact.specs.Vector.{Vector, at}
use Rattle.linear.specs.Matrix.{nought}
use Rattle.point.specs.declared.point.Point.{Point}
use Rattle.point.specs.Point.{point}
use Rattle.point.specs.Course.{Course, on, out, turn, ended}

pub record PairSums : Type 0 where
  pub su : Float
  pub sv : Float
  pub sw : Float

-- the pair that starts at place k
module _ (c : Vector) (x y : Float) (k : ℕ) where
  abbrev pub d2 : Float
  d2 = (x ⊖ at c (k + 2)) ⊗ (x ⊖ at c (k + 2)) ⊕ (y ⊖ at c (k + 3)) ⊗ (y ⊖ at c (k + 3))

  -- 1 / d2.powf(1.0)
  abbrev pub wgt : Float
  wgt = one ⊘ d2

  unfoldable pub add_pair : PairSums → Course PairSums
  add_pair s =
      cond (lt d2 least_divisor)
      (out (point (at c k) (at c (k + 1))))
      (on (record {
        su = s.su ⊕ wgt ⊗ (at c k ⊖ at c (k + 2));
        sv = s.sv ⊕ wgt ⊗ (at c (k + 1) ⊖ at c (k + 3));
        sw = s.sw ⊕ wgt;
      }))

unfoldable pub pair_turn : Vector → Float → Float → ℕ → Course PairSums → Course PairSums
pair_turn c x y j s = turn (add_pair c x y (4 * j)) s

abbrev pub zero_sums : PairSums
zero_sums = record { su = nought; sv = nought; sw = nought }

abbrev pub moved_by : Float → Float → PairSums → Point
moved_by x y s = point (x ⊕ s.su ⊘ s.sw) (y ⊕ s.sv ⊘ s.sw)

unfoldable pub of_pairs : Vector → Float → Float → ℕ → Point
of_pairs c x y n = ended (moved_by x y) (up_to (pair_turn c x y) 0 n (on zero_sums))

-- four coefficients a pair, and 64 pairs at most
abbrev pub pairs_kept : ℕ → ℕ
pairs_kept count = min (count / 4) most_pairs

abbrev pub shepards : ℕ → Vector → Float → Float → Point
shepards count c x y = of_pairs c x y (pairs_kept count)
