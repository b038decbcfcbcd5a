-- The fraction of a point in its cell: x less its floor is from 0 to 1, where an f64 rounding is at most 2 ^ -54 and
-- the narrowing to f32 at most 2 ^ -25. Either may reach 1. Provides, for any float fx that has the floor's value and
-- any t that is x - fx rounded to f32: `cell_rest` (the f64 difference), `cell_fraction` (t itself), `cell_of` (the
-- cell). Assumes nothing.
use mathlib.Core.Path.{refl}
use Prim.Native.Nat.{◌^◌}
use lib.Dec.{T}
use lib.Ieee.{Float, binary32, binary64}
use lib.Ieee.Scale.{finite}
use Rattle.exact.specs.Fraction.{frac, whole, value, ◌≈◌, ◌+F◌, Within, Unit01}
use Rattle.exact.specs.Rounds.{Rounds}
use Rattle.exact.specs.Surface.{floor_f, part_f}
use Rattle.exact.specs.Double.{◌⊖◌}
use Rattle.exact.specs.Weighted.{Unit32}
use Rattle.exact.specs.Warp.{cell_error, InCell}
use Rattle.exact.proofs.Near.{le_refl, within_same, within_trans, within_add}
use Rattle.exact.proofs.Products.{eq_refl, ◌⨟◌, back, sub_same, add_zero, add_comm}
use Rattle.exact.proofs.NearProducts.{abs_unit, within_like}
use Rattle.exact.proofs.Floor.{part_unit, part_add}
use Rattle.exact.proofs.Rounds.{rounds_along}
use Rattle.exact.proofs.Monotone.{rounds_fits}
use Rattle.exact.proofs.Operations.{sub_rounds}
use Rattle.exact.proofs.Bounds.{rounds_bound, rounds_unit, within32_0}

module _ (x fx : Float) (n : T (finite x)) (m : T (finite fx)) (floor : value fx ≈ whole (floor_f (value x))) where
  rest_rounds : Rounds binary64 (x ⊖ fx) (part_f (value x))
  unfolding part_f
  rest_rounds = rounds_along (sub_same (eq_refl (value x)) floor) (sub_rounds binary64 x fx n m)

  pub cell_rest : T (finite (x ⊖ fx))
      × (Unit01 (value (x ⊖ fx)) × Within (value (x ⊖ fx)) (part_f (value x)) (frac 1 (2 ^ 54)))
  cell_rest =
      let u = part_unit (value x) in
      let w = rounds_unit rest_rounds u in
      (w.0, (w.1, (rounds_bound rest_rounds 1074 1 1 1 (2 ^ 54) tt (abs_unit (part_f (value x)) u)).near))

  -- narrowed to f32
  module _ (t : Float) (R : Rounds binary32 t (value (x ⊖ fx))) where
    pub cell_fraction : Unit32 t × Within (value t) (part_f (value x)) cell_error
    cell_fraction =
        let u = cell_rest.1.0 in
        let w = rounds_unit R u in (
          record { number = w.0; held = rounds_fits R; unit = w.1 },
          within_trans (value t) (value (x ⊖ fx)) (part_f (value x)) (frac 1 (2 ^ 25)) (frac 1 (2 ^ 54))
              (within32_0 R (abs_unit (value (x ⊖ fx)) u)).near cell_rest.1.1,
        )

    pub cell_of : InCell x (floor_f (value x)) t
    cell_of = record {
      floor = refl;
      fraction = cell_fraction.0;
      near = let k = whole (floor_f (value x)) in
          within_like (eq_refl (k +F value t)) (back (part_add (value x)))
          (add_comm (frac 0 1) cell_error ⨟ add_zero cell_error)
          (within_add k k (value t) (part_f (value x)) (frac 0 1) cell_error
          (within_same k k (frac 0 1) (eq_refl k) (le_refl (frac 0 1) (frac 0 1))) cell_fraction.1);
    }
