-- A loop that can be left in the middle with its answer: it is on, in some state, or out, with a point, and then no
-- turn changes that. Assumes nothing.
use Rattle.point.specs.declared.point.Point.{Point}

pub data Course (A : Type 0) : Type 0 where
  on : A → Course A
  out : Point → Course A

-- a turn, which is only made while the loop is on
unfoldable pub turn : {A : Type 0} → (A → Course A) → Course A → Course A
turn step (on a) = step a
turn step (out p) = out p

-- the answer: what the loop left with, else what its last state gives
unfoldable pub ended : {A : Type 0} → (A → Point) → Course A → Point
ended last (on a) = last a
ended last (out p) = p
