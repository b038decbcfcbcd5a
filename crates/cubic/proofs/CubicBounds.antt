-- No weight is above 1 in magnitude: below 1 the exact kernel is not negative, and the code's is at most 1; from 1 to 2
-- the exact one is at most 1/2 in magnitude, and the code's is near it. Provides: `Shape` (of one kernel),
-- `catrom_shape`, `spline_shape`; `kernel_bounded`, `weights_bounded` (`catrom_bounded`, `spline_bounded`),
-- `product_bounded` (of two weights). Assumes nothing.
use mathlib.Core.Path.{◌≡◌, refl, sym, ap, ◌∙◌, subst}
use mathlib.Core.List.{List, [], ◌∷◌}
use mathlib.Core.Logic.{⊎_elim}
use mathlib.Core.Bool.{Bool, cond}
use Prim.Native.Nat.{◌^◌}
use native.Mathlib.Omega.{arith}
use lib.Dec.{T, lit≤}
use lib.Ieee.{Float, binary32, neg, of_bits, lt}
use lib.Ieee.Bits.{is_true}
use lib.Ieee.Scale.{finite}
use Rattle.exact.specs.Each.{Each}
use Rattle.exact.specs.Fraction.{Fraction, frac, value, ◌≤F◌, ◌<F◌, neg_f, ◌+F◌, ◌*F◌, abs_f, Within, Unit01}
use Rattle.exact.specs.Rounds.{Close}
use Rattle.exact.specs.Single.{◌⊕◌, ◌⊖◌, ◌⊗◌, ◌⊘◌}
use Rattle.exact.specs.Weighted.{Unit32}
use Rattle.exact.proofs.Scale.{at_le, le_at, at_neg, common}
use Rattle.exact.proofs.Near.{le_refl, le_trans, lt_le, within_at}
use Rattle.exact.proofs.Products.{eq_refl, back, at_zero, le_same, nonneg_mul, lt_or_le, unit_same}
use Rattle.exact.proofs.NearProducts.{abs_self, abs_nonneg, abs_unit, abs_close, abs_near, abs_mul}
use Rattle.exact.proofs.Magnitude.{abs_alike}
use Rattle.exact.proofs.Bounds.{rounds_bound}
use Rattle.exact.proofs.Sums.{step_fine}
use Rattle.number.specs.Magnitude.{abs}
use Rattle.cubic.specs.declared.cubic.CubicRow.{CubicRow}
use Rattle.cubic.specs.Cubic.{
  zero,
  one,
  two,
  six,
  catrom_row,
  spline_row,
  near_piece,
  far_piece,
  pieces,
  kernel,
  cubic_weights,
  catrom,
  spline,
}
use Rattle.cubic.specs.Mitchell.{less_f, near_f, far_f, mitchell}
use Rattle.cubic.specs.Bounded.{Bounded}
use Rattle.cubic.proofs.Sizes.{abs_magnitude, mul_bounded}
use Rattle.cubic.proofs.CubicExact.{true_less, mitchell_near, mitchell_far}
use Rattle.cubic.proofs.CubicPieces.{parts}
use Rattle.cubic.proofs.CubicKernel.{
  Coefficients,
  catrom_coefficients,
  spline_coefficients,
  same_less,
  kernel_close,
}
use Rattle.cubic.proofs.CubicShape.{catrom_nonneg, spline_nonneg, catrom_small, spline_small}
use Rattle.cubic.proofs.CubicError.{one_more, one_less, two_less, plus_one, less_one, less_two}
use Rattle.cubic.proofs.CubicOrder.{near_top}

-- ---- a kernel's shape: what the argument above asks of the coefficients, and the exact pieces' sizes
pub record Shape (row : CubicRow) (B C : Fraction) : Type 0 where
  pub larger : abs_f (value row.near3) ≤F abs_f (value row.near2)
  pub down : value row.near2 ≤F frac 0 1
  pub last : value row.near0 ≤F frac 6 1
  pub near_nonneg : (x : Fraction) → Unit01 x → frac 0 1 ≤F near_f B C x
  pub far_small : (x : Fraction) → frac 1 1 ≤F x → x ≤F frac 2 1 → abs_f (far_f B C x) ≤F frac 3 1

pub catrom_shape : Shape catrom_row (frac 0 1) (frac 1 2)
catrom_shape = record {
  larger = unfold neg of_bits abs_f in record { le = lit≤ tt };
  down = unfold neg of_bits in record { le = lit≤ tt };
  last = unfold of_bits in record { le = lit≤ tt };
  near_nonneg = catrom_nonneg;
  far_small = catrom_small;
}

pub spline_shape : Shape spline_row (frac 1 1) (frac 0 1)
spline_shape = record {
  larger = unfold neg of_bits abs_f in record { le = lit≤ tt };
  down = unfold neg of_bits in record { le = lit≤ tt };
  last = unfold of_bits in record { le = lit≤ tt };
  near_nonneg = spline_nonneg;
  far_small = spline_small;
}

-- ---- the kernel
module _ {row : CubicRow} {B C : Fraction} (K : Coefficients row B C) (S : Shape row B C) (x : Float)
    (t : T (finite x)) (h : abs_f (value x) ≤F frac 2 1) where
  abbrev w : Float
  w = kernel row x

  abbrev size : Fraction
  size = abs_f (value x)

  close : Close w (mitchell B C (value x)) (parts 41) (frac 128 1)
  close = kernel_close x t K h

  size_nonneg : frac 0 1 ≤F size
  size_nonneg = abs_nonneg (value x) size (le_refl size size)

  inner : size <F frac 1 1 → w ≡ near_piece row (abs x) ⊘ six
  unfolding pieces
  inner l = ap (λ (s : Bool). cond s (near_piece row (abs x)) (cond (lt (abs x) two) (far_piece row (abs x)) zero) ⊘ six)
      (same_less x t one (unfold of_bits in tt) (frac 1 1) (unfold of_bits in record { eq = refl })
      ∙ is_true (less_f size (frac 1 1)) (true_less size (frac 1 1) l))

  sizes : {v : Float} {X m : Fraction} → Close v X (frac 0 1) m → Bounded m v
  sizes c = record { number = c.number; size = c.small }

  -- a number that is near one that is not negative
  above : (v X e : Fraction) → Within v X e → frac 0 1 ≤F X → neg_f v ≤F e
  above v X e k l =
      common (v ∷ X ∷ e ∷ []) (λ D D0 ((_, _, Y), ((_, _, Z), ((_, _, E), _))). let m = within_at D D0 Y Z E k in
      let n = le_at D D0 (at_zero D) Z l in at_le D D0 (at_neg Y) E (omega arith))

  below_one : size <F frac 1 1 → abs_f (value w) ≤F frac 1 1
  below_one l =
      let m = abs_magnitude x t in
      let u : Unit01 size = (size_nonneg, lt_le size (frac 1 1) l) in
      abs_close (value w) (frac 1 1)
      (subst (λ (z : Float). value z ≤F frac 1 1) (sym (inner l))
      (near_top row (abs x) (sizes K.near_3) (sizes K.near_2) (sizes K.near_0) m.0
      (unit_same (back m.1) u) S.larger S.down S.last
      (subst (λ (z : Float). T (finite z)) (inner l) close.number)))
      (le_trans (neg_f (value w)) (parts 41) (frac 1 1)
      (above (value w) (mitchell B C (value x)) (parts 41) close.near
      (le_same (eq_refl (frac 0 1)) (back (mitchell_near B C (value x) u.1))
      (nonneg_mul (record { le = lit≤ tt }) (S.near_nonneg size u))))
      (record { le = lit≤ tt }))

  from_one : frac 1 1 ≤F size → abs_f (value w) ≤F frac 1 1
  from_one l =
      le_trans (abs_f (value w)) (frac 1 6 *F frac 3 1 +F parts 41) (frac 1 1)
      (abs_near (value w) (mitchell B C (value x)) (parts 41) (frac 1 6 *F frac 3 1) close.near
      (le_trans (abs_f (mitchell B C (value x))) (abs_f (frac 1 6 *F far_f B C size)) (frac 1 6 *F frac 3 1)
      (abs_alike (mitchell B C (value x)) (frac 1 6 *F far_f B C size) (mitchell_far B C (value x) l h))
      (abs_mul (frac 1 6) (far_f B C size) (frac 1 6) (frac 3 1) (abs_self (frac 1 6) (record { le = lit≤ tt }))
      (S.far_small size l h))))
      (unfold ◌+F◌ ◌*F◌ in record { le = lit≤ tt })

  pub kernel_bounded : Bounded (frac 1 1) w
  kernel_bounded = record { number = close.number; size = ⊎_elim below_one from_one (lt_or_le size (frac 1 1)) }

-- ---- the four weights
abbrev pub BoundedEach : List Float → Type 0
BoundedEach = Each (Bounded (frac 1 1))

pub weights_bounded : {row : CubicRow} {B C : Fraction} → Coefficients row B C → Shape row B C → (t : Float) → Unit32 t
    → BoundedEach (cubic_weights t row)
weights_bounded K S t u =
    let p = rounds_bound (one_more t u.number) 150 2 1 1 (2 ^ 24) tt (plus_one (value t) u.unit).1 in
    let q = rounds_bound (one_less t u.number) 149 1 1 1 (2 ^ 25) tt (less_one (value t) u.unit) in
    let r = rounds_bound (two_less t u.number) 150 2 1 1 (2 ^ 24) tt (less_two (value t) u.unit).1 in (
      kernel_bounded K S (t ⊕ one) p.number p.small,
      (
        kernel_bounded K S t u.number (two_at_least t (abs_unit (value t) u.unit)),
        (
          kernel_bounded K S (t ⊖ one) q.number (two_at_least (t ⊖ one) q.small),
          (kernel_bounded K S (t ⊖ two) r.number r.small, tt),
        ),
      ),
    )
  where
    two_at_least : (x : Float) → abs_f (value x) ≤F frac 1 1 → abs_f (value x) ≤F frac 2 1
    two_at_least x h = le_trans (abs_f (value x)) (frac 1 1) (frac 2 1) h (record { le = lit≤ tt })

pub catrom_bounded : (t : Float) → Unit32 t → BoundedEach (catrom t)
catrom_bounded t u = weights_bounded catrom_coefficients catrom_shape t u

pub spline_bounded : (t : Float) → Unit32 t → BoundedEach (spline t)
spline_bounded t u = weights_bounded spline_coefficients spline_shape t u

-- a product of two weights, as the sixteen taps have, is no larger
pub product_bounded : (v w : Float) → Bounded (frac 1 1) v → Bounded (frac 1 1) w → Bounded (frac 1 1) (v ⊗ w)
product_bounded v w p q =
    mul_bounded (step_fine binary32 149 1 1 1 (2 ^ 25) tt) p q (unfold ◌*F◌ in record { le = lit≤ tt })
