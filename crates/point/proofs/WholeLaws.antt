-- A point is `point` of its own coordinates: one that was made of two numbers, none, and one that is either. A loop
-- that is left in the middle ends in such a point where each of its turns does. Assumes nothing.
use mathlib.Core.Path.{◌≡◌, refl, sym, ap, ◌∙◌}
use mathlib.Core.Bool.{Bool, true, false, cond}
use lib.Ieee.{Float, nan, le}
use Rattle.exact.proofs.Booleans.{either}
use Rattle.number.specs.Magnitude.{abs, within}
use Rattle.point.specs.declared.point.Point.{Point}
use Rattle.point.specs.Point.{usable, point, none, point_unless, Whole}
use Rattle.point.specs.Course.{Course, on, out, turn, ended}

pub point_whole : (u v : Float) → Whole (point u v)
point_whole u v = record { whole = refl }

-- a NaN is not below the limit
none_usable : usable nan nan ≡ false
unfolding usable within abs le
none_usable = refl

pub none_is : point nan nan ≡ none
none_is = λ i. record { u = nan; v = nan; usable = none_usable i }

pub none_whole : Whole none
none_whole = record { whole = sym none_is }

-- chosen number by number
pub by_number : (t : Bool) (u v : Float) → point (cond t nan u) (cond t nan v) ≡ point_unless t u v
by_number true u v = none_is
by_number false u v = refl

pub unless_whole : (t : Bool) (u v : Float) → Whole (point_unless t u v)
unless_whole t u v = either Whole t none_whole (point_whole u v)

-- the mark of such a point is the test of its coordinates
pub usable_whole : (p : Point) → Whole p → p.usable ≡ true → usable p.u p.v ≡ true
usable_whole p w h = sym (ap (λ (q : Point). q.usable) w.whole) ∙ h

-- ---- loops that can be left in the middle
pub data Leaves {A : Type 0} : Course A → Type 0 where
  goes : (a : A) → Leaves (on a)
  left : {p : Point} → Whole p → Leaves (out p)

pub turn_leaves : {A : Type 0} (step : A → Course A) → ((a : A) → Leaves (step a)) → (c : Course A) → Leaves c
    → Leaves (turn step c)
unfolding turn
turn_leaves step s (on a) h = s a
turn_leaves step s (out p) h = h

pub ended_whole : {A : Type 0} (last : A → Point) → ((a : A) → Whole (last a)) → (c : Course A) → Leaves c
    → Whole (ended last c)
unfolding ended
ended_whole last ok (on a) h = ok a
ended_whole last ok (out p) (left m) = m
