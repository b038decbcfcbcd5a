-- The cubic weights lie within 1 / 65,536 of the formula: the argument of the kernel is rounded once and stays on its
-- side of 1 and of 2, the exact piece there moves by at most 144 times the argument's error, and the kernel's own
-- roundings cost 41 parts of 2 ^ -22 (of the 64 that are 1 / 65,536). Provides: `argument_near`, `argument_far`;
-- `plus_one`, `less_one`, `less_two`, `one_more`, `one_less`, `two_less` (the arguments, exact and rounded);
-- `weights_near`, the law, and for the two kernels `catrom_near`, `spline_near`. Assumes nothing.
use mathlib.Core.Path.{refl}
use mathlib.Core.List.{[], ◌∷◌}
use Prim.Native.Nat.{◌^◌}
use native.Mathlib.Omega.{arith}
use lib.Dec.{T, lit≤}
use lib.Ieee.{Float, binary32, of_bits}
use lib.Ieee.Scale.{finite}
use Rattle.exact.specs.Fraction.{Fraction, frac, value, ◌≤F◌, ◌≈◌, neg_f, ◌+F◌, ◌-F◌, ◌*F◌, abs_f, Within, Unit01}
use Rattle.exact.specs.Rounds.{Rounds, Close, power_f}
use Rattle.exact.specs.Single.{◌⊕◌, ◌⊖◌}
use Rattle.exact.specs.Weighted.{Unit32}
use Rattle.exact.proofs.Scale.{at_le, le_at, at_neg, at_add, at_sub, common}
use Rattle.exact.proofs.Near.{le_refl, le_trans, add_same, within_sym, within_more, within_trans}
use Rattle.exact.proofs.Products.{eq_refl, back, at_zero, at_one, at_count, add_zero, le_same, sub_same}
use Rattle.exact.proofs.NearProducts.{
  at_abs_le,
  abs_open,
  abs_unit,
  abs_self,
  abs_nonneg,
  abs_near,
  within_like,
  within_scale,
}
use Rattle.exact.proofs.Rounds.{rounds_along}
use Rattle.exact.proofs.Monotone.{rounds_own}
use Rattle.exact.proofs.Operations.{add_rounds, sub_rounds}
use Rattle.exact.proofs.Bounds.{rounds_bound}
use Rattle.exact.proofs.Samples.{one_number, one_value}
use Rattle.exact.proofs.Ranges.{abs_grow, rounds_least}
use Rattle.cubic.specs.declared.cubic.CubicRow.{CubicRow}
use Rattle.cubic.specs.Cubic.{one, two, kernel, cubic_weights, catrom, spline}
use Rattle.cubic.specs.Mitchell.{
  near3,
  near2,
  near0,
  near_f,
  far3,
  far2,
  far1,
  far0,
  far_f,
  mitchell,
  exact_weights,
  cubic_error,
  NearTo,
  NearEach,
}
use Rattle.cubic.proofs.CubicExact.{mitchell_near, mitchell_far}
use Rattle.cubic.proofs.CubicPieces.{parts}
use Rattle.cubic.proofs.CubicKernel.{Coefficients, catrom_coefficients, spline_coefficients, kernel_close}
use Rattle.cubic.proofs.CubicMove.{within_abs, near_error, piece_near, piece_far}

-- half an ulp up to 1 and up to 2, and what it moves the pieces
abbrev near_gap : Fraction
near_gap = frac 1 (2 ^ 25)

abbrev near_moved : Fraction
near_moved = near_error near_gap (frac 1 1) (frac 16 1) (frac 16 1) +F frac 0 1

abbrev far_gap : Fraction
far_gap = frac 1 (2 ^ 24)

abbrev far_moved : Fraction
far_moved = near_error far_gap (frac 2 1) (frac 4 1) (frac 16 1) +F frac 32 1 *F far_gap +F frac 0 1

-- an exact coefficient is as small as its float
coefficient_size : {a : Float} {A s : Fraction} → Close a A (frac 0 1) s → abs_f A ≤F s
coefficient_size {a} {A} {s} c =
    le_same (eq_refl (abs_f A)) (add_zero s)
    (abs_near A (value a) (frac 0 1) s (within_sym (value a) A (frac 0 1) c.near) c.small)

-- ---- the kernel at an argument that was rounded once
abs_abs : (x : Fraction) {m : Fraction} → abs_f x ≤F m → abs_f (abs_f x) ≤F m
abs_abs x {m} h = le_trans (abs_f (abs_f x)) (abs_f x) m
    (abs_self (abs_f x) (abs_nonneg x (abs_f x) (le_refl (abs_f x) (abs_f x)))) h

module _ {row : CubicRow} {B C : Fraction} (K : Coefficients row B C) {r : Float} {X : Fraction}
    (R : Rounds binary32 r X) where
  abbrev sixth : Fraction → Fraction
  sixth v = frac 1 6 *F v

  together : (e : Fraction) → Close (kernel row r) (mitchell B C (value r)) (parts 41) (frac 128 1)
      → Within (mitchell B C (value r)) (mitchell B C X) e → parts 41 +F e ≤F cubic_error
      → NearTo (kernel row r) (mitchell B C X)
  together e k w l = record {
    number = k.number;
    near = within_more (value (kernel row r)) (mitchell B C X) (parts 41 +F e) cubic_error l
        (within_trans (value (kernel row r)) (mitchell B C (value r)) (mitchell B C X) (parts 41) e k.near w);
  }

  -- up to 1 in magnitude, and so is the rounded one
  pub argument_near : abs_f X ≤F frac 1 1 → NearTo (kernel row r) (mitchell B C X)
  argument_near h =
      let k : Close r X near_gap (frac 1 1) = rounds_bound R 149 1 1 1 (2 ^ 25) tt h in
      let w =
      piece_near (abs_f (value r)) (abs_f X) near_gap (frac 1 1) (abs_abs (value r) k.small) (abs_abs X h)
      (within_abs (value r) X near_gap k.near) (near3 B C) (near2 B C) (near0 B) (frac 16 1) (frac 16 1)
      (coefficient_size K.near_3) (coefficient_size K.near_2) in
      together (sixth near_moved)
      (kernel_close r k.number K
      (le_trans (abs_f (value r)) (frac 1 1) (frac 2 1) k.small (record { le = lit≤ tt })))
      (within_like (back (mitchell_near B C (value r) k.small)) (back (mitchell_near B C X h))
      (eq_refl (sixth near_moved))
      (within_scale (near_f B C (abs_f (value r))) (near_f B C (abs_f X)) near_moved (frac 1 6) (record { le = lit≤ tt })
      w)) error
    where
      error : parts 41 +F sixth near_moved ≤F cubic_error
      error = unfold ◌+F◌ ◌*F◌ in record { le = lit≤ tt }

  -- from 1 to 2 in magnitude, and so is the rounded one
  pub argument_far : frac 1 1 ≤F abs_f X → abs_f X ≤F frac 2 1 → NearTo (kernel row r) (mitchell B C X)
  argument_far l h =
      let k : Close r X far_gap (frac 2 1) = rounds_bound R 150 2 1 1 (2 ^ 24) tt h in
      let j : frac 1 1 ≤F abs_f (value r) =
      le_trans (frac 1 1) (power_f binary32 149) (abs_f (value r)) (record { le = lit≤ tt })
      (rounds_least R 149 (lit≤ tt) (le_trans (power_f binary32 149) (frac 1 1) (abs_f X) (record { le = lit≤ tt }) l)
      k.number) in
      let w =
      piece_far (abs_f (value r)) (abs_f X) far_gap (frac 2 1) (abs_abs (value r) k.small) (abs_abs X h)
      (within_abs (value r) X far_gap k.near) (far3 B C) (far2 B C) (far1 B C) (far0 B C) (frac 4 1) (frac 16 1)
      (frac 32 1)
      (coefficient_size K.far_3) (coefficient_size K.far_2) (coefficient_size K.far_1) in
      together (sixth far_moved) (kernel_close r k.number K k.small)
      (within_like (back (mitchell_far B C (value r) j k.small)) (back (mitchell_far B C X l h))
      (eq_refl (sixth far_moved))
      (within_scale (far_f B C (abs_f (value r))) (far_f B C (abs_f X)) far_moved (frac 1 6) (record { le = lit≤ tt }) w))
      error
    where
      error : parts 41 +F sixth far_moved ≤F cubic_error
      error = unfold ◌+F◌ ◌*F◌ in record { le = lit≤ tt }

-- ---- the four arguments, at a fraction from 0 to 1
module _ (t : Fraction) (u : Unit01 t) where
  pub plus_one : (frac 1 1 ≤F abs_f (t +F frac 1 1)) × (abs_f (t +F frac 1 1) ≤F frac 2 1)
  plus_one =
      common (t ∷ [])
      (λ D D0 ((_, _, X), _).
      let a = le_at D D0 (at_zero D) X u.0 in
      let b = le_at D D0 X (at_one D) u.1 in
      let z = at_add X (at_one D) in (
        le_trans (frac 1 1) (t +F frac 1 1) (abs_f (t +F frac 1 1)) (at_le D D0 (at_one D) z (omega arith))
            (abs_grow (t +F frac 1 1)),
        at_abs_le D D0 z (at_count D 2) (omega arith) (omega arith),
      ))

  pub less_one : abs_f (t -F frac 1 1) ≤F frac 1 1
  less_one =
      common (t ∷ [])
      (λ D D0 ((_, _, X), _).
      let a = le_at D D0 (at_zero D) X u.0 in
      let b = le_at D D0 X (at_one D) u.1 in
      at_abs_le D D0 (at_sub X (at_one D)) (at_one D) (omega arith) (omega arith))

  pub less_two : (frac 1 1 ≤F abs_f (t -F frac 2 1)) × (abs_f (t -F frac 2 1) ≤F frac 2 1)
  less_two =
      common (t ∷ [])
      (λ D D0 ((_, _, X), _).
      let a = le_at D D0 (at_zero D) X u.0 in
      let b = le_at D D0 X (at_one D) u.1 in
      let z = at_sub X (at_count D 2) in (
        le_trans (frac 1 1) (neg_f (t -F frac 2 1)) (abs_f (t -F frac 2 1))
            (at_le D D0 (at_one D) (at_neg z) (omega arith))
            (abs_open (t -F frac 2 1) (abs_f (t -F frac 2 1))
            (le_refl (abs_f (t -F frac 2 1)) (abs_f (t -F frac 2 1)))).1,
        at_abs_le D D0 z (at_count D 2) (omega arith) (omega arith),
      ))

-- ---- the law
pub one_more : (t : Float) → T (finite t) → Rounds binary32 (t ⊕ one) (value t +F frac 1 1)
one_more t h = rounds_along (add_same (value t) (value t) (value one) (frac 1 1) (eq_refl (value t)) one_value)
    (add_rounds binary32 t one h one_number)

pub one_less : (t : Float) → T (finite t) → Rounds binary32 (t ⊖ one) (value t -F frac 1 1)
one_less t h = rounds_along (sub_same (eq_refl (value t)) one_value) (sub_rounds binary32 t one h one_number)

pub two_less : (t : Float) → T (finite t) → Rounds binary32 (t ⊖ two) (value t -F frac 2 1)
two_less t h = rounds_along (sub_same (eq_refl (value t)) two_value) (sub_rounds binary32 t two h two_number)
  where
    two_number : T (finite two)
    two_number = unfold of_bits in tt

    two_value : value two ≈ frac 2 1
    two_value = unfold of_bits in record { eq = refl }

pub weights_near : {row : CubicRow} {B C : Fraction} → Coefficients row B C → (t : Float) → Unit32 t
    → NearEach (cubic_weights t row) (exact_weights B C (value t))
weights_near K t u =
    let f = plus_one (value t) u.unit in
    let g = less_two (value t) u.unit in (
      argument_far K (one_more t u.number) f.0 f.1,
      (
        argument_near K (rounds_own binary32 t u.held u.number) (abs_unit (value t) u.unit),
        (
          argument_near K (one_less t u.number) (less_one (value t) u.unit),
          (argument_far K (two_less t u.number) g.0 g.1, tt),
        ),
      ),
    )

pub catrom_near : (t : Float) → Unit32 t → NearEach (catrom t) (exact_weights (frac 0 1) (frac 1 2) (value t))
catrom_near t u = weights_near catrom_coefficients t u

pub spline_near : (t : Float) → Unit32 t → NearEach (spline t) (exact_weights (frac 1 1) (frac 0 1) (value t))
spline_near t u = weights_near spline_coefficients t u
