-- `number::floor::floor_i64_within` meets its contract: the floor is a whole number of at most 31 digits, so that its
-- float casts to it. Assumes nothing.
use Rattle.std.proofs.Common.{◌≡◌, ◌^◌, ◌<◌, T, ℤ, sym, ap, ◌∙◌, subst, le_trans, lt_of_le_of_lt, lit<, w64, to_z, of_z}
use mir.ValLaws.{to_z-of_z}
use lib.Signed.{mag}
use lib.Ieee.{Float, binary64, of_int, in_signed, to_signed}
use Rattle.exact.proofs.Integer.{mag_le, of_int_back}
use Rattle.number.specs.Floor.{in_domain, floorℤ, floor_i64}
use Rattle.number.proofs.FloorLaws.{floor_size, floor_integer}
use Rattle.number.proofs.FloorValue.{floor_counted}
use Rattle.number.proofs.floor.floor_i64_within.Goals as goal

module _ (x f : Float) (e : f ≡ of_int binary64 (floorℤ x)) (d : T (in_domain x)) where
  word : mag (floorℤ x) < 2 ^ 63
  word = lt_of_le_of_lt (le_trans (mag_le (floorℤ x)) (floor_size x d)) (lit< tt)

  back : T (in_signed binary64 63 f) × (to_signed 63 f ≡ floorℤ x)
  back = subst (λ (y : Float). T (in_signed binary64 63 y) × (to_signed 63 y ≡ floorℤ x)) (sym e)
      (of_int_back binary64 63 (floorℤ x) (floor_counted x d) word)

  answer : to_z w64 (of_z w64 (to_signed 63 f)) ≡ floor_i64 x
  answer = ap (λ (z : ℤ). to_z w64 (of_z w64 z)) back.1 ∙ to_z-of_z w64 (floorℤ x) (record { sfits = word })
      ∙ sym (floor_integer x d)

pub float_to_int-result : goal.float_to_int-result
float_to_int-result c = (back c.args.x c.whole_below.result
    c.whole_below.ensures c.requires).0

pub returns : goal.returns
returns c = answer c.args.x c.whole_below.result c.whole_below.ensures
    c.requires
