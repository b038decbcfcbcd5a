-- `fast_cells::inner::column` meets its contract: the floor is a natural number of 16 bits, so that its float casts to
-- it.
use mathlib.Core.Path.{◌≡◌, sym, ap, ◌∙◌, subst}
use native.Mathlib.Nat.{le_trans, le_of_lt, lt_of_lt_of_le}
use lib.Dec.{T, lit≤}
use lib.IntN.{ℤ, pos, nat_abs}
use lib.Signed.{non_neg}
use lib.Ieee.{Float, binary64, of_int, in_signed, to_signed}
use lib.Ieee.Back.{positive_back}
use mir.Syntax.{w32}
use mir.Val.{Fits, to_z, of_z}
use mir.ValLaws.{to_z-of_z}
use Rattle.exact.proofs.Integer.{counted}
use Rattle.number.specs.Floor.{floorℤ}
use Rattle.fast_cells.specs.Inner.{Low}
use Rattle.fast_cells.proofs.inner.column.Goals as goal

module _ (z f : Float) (e : f ≡ of_int binary64 (floorℤ z)) (l : Low z) where
  back : T (in_signed binary64 31 f) × (to_signed 31 f ≡ pos l.whole)
  back =
      subst (λ (y : Float). T (in_signed binary64 31 y) × (to_signed 31 y ≡ pos l.whole))
      (sym (e ∙ ap (of_int binary64) l.floor))
      (positive_back binary64 31 l.whole
      (counted binary64 (pos l.whole) (le_trans (le_of_lt l.small) (lit≤ tt)))
      (lt_of_lt_of_le l.small (lit≤ tt)))

  read : to_z w32 (of_z w32 (to_signed 31 f)) ≡ pos l.whole
  read = ap (λ (y : ℤ). to_z w32 (of_z w32 y)) back.1
      ∙ to_z-of_z w32 (pos l.whole) (record { sfits = lt_of_lt_of_le l.small (lit≤ tt) })

  plain : T (non_neg (to_z w32 (of_z w32 (to_signed 31 f)))) × Fits w32 (nat_abs (to_z w32 (of_z w32 (to_signed 31 f))))
  plain = subst (λ (y : ℤ). T (non_neg y) × Fits w32 (nat_abs y)) (sym read)
      (tt, record { fits = lt_of_lt_of_le l.small (lit≤ tt) })

pub float_to_int-result : goal.float_to_int-result
float_to_int-result c = (back _ _ c.whole_below.ensures c.requires).0

pub overflow_cast-result : goal.overflow_cast-result
overflow_cast-result c = plain _ _ c.whole_below.ensures c.requires

pub returns : goal.returns
returns c = let l = c.requires in l.floor
    ∙ sym (ap (λ (y : ℤ). pos (nat_abs y)) (read _ _ c.whole_below.ensures l))
