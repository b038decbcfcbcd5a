-- The rounding errors of the two pieces at a magnitude ax: each operation costs half an ulp of the power of two above
-- its result, and a product carries the error of its first factor times ax. Errors are counted in parts of 2 ^ -22.
-- Provides: `parts`, `near_close` (22 parts for ax up to 1), `far_close` (148 parts for ax up to 2), `sixth_close` (the
-- division by 6). Assumes nothing.
use mathlib.Core.Path.{refl}
use Prim.Native.Nat.{ℕ, ◌^◌}
use lib.Dec.{T, lit≤, lit<}
use lib.Ieee.{Float, binary32, of_bits}
use lib.Ieee.Scale.{finite}
use Rattle.exact.specs.Fraction.{Fraction, frac, value, ◌≤F◌, ◌<F◌, ◌≈◌, ◌+F◌, ◌*F◌, ◌/F◌, abs_f}
use Rattle.exact.specs.Rounds.{Rounds, Close}
use Rattle.exact.specs.Single.{◌⊕◌, ◌⊗◌, ◌⊘◌}
use Rattle.exact.proofs.Near.{le_refl, le_trans, add_same}
use Rattle.exact.proofs.Products.{eq_refl, ◌⨟◌, mul_same, mul_comm, mul_assoc, mul_one}
use Rattle.exact.proofs.NearProducts.{abs_mul, abs_self, within_mul_by, within_scale}
use Rattle.exact.proofs.Quotients.{div_only}
use Rattle.exact.proofs.Rounds.{rounds_along}
use Rattle.exact.proofs.Operations.{mul_rounds, div_rounds}
use Rattle.exact.proofs.Steps.{close_more, close_along, close_move}
use Rattle.exact.proofs.Sums.{Step, step_fine, add_near}
use Rattle.cubic.specs.declared.cubic.CubicRow.{CubicRow}
use Rattle.cubic.specs.Cubic.{six, near_piece, far_piece}
use Rattle.cubic.specs.Mitchell.{without_linear_f, with_linear_f}

-- ---- n parts
abbrev pub parts : ℕ → Fraction
parts n = frac n (2 ^ 22)

-- the powers of two that bound the results, each with half an ulp below it
abbrev step_8 : Step binary32 (parts 1) (frac 8 1)
step_8 = step_fine binary32 152 8 1 1 (2 ^ 22) tt

abbrev step_16 : Step binary32 (parts 2) (frac 16 1)
step_16 = step_fine binary32 153 16 1 2 (2 ^ 22) tt

abbrev step_32 : Step binary32 (parts 4) (frac 32 1)
step_32 = step_fine binary32 154 32 1 4 (2 ^ 22) tt

abbrev step_64 : Step binary32 (parts 8) (frac 64 1)
step_64 = step_fine binary32 155 64 1 8 (2 ^ 22) tt

abbrev step_128 : Step binary32 (parts 16) (frac 128 1)
step_128 = step_fine binary32 156 128 1 16 (2 ^ 22) tt

abbrev step_256 : Step binary32 (parts 32) (frac 256 1)
step_256 = step_fine binary32 157 256 1 32 (2 ^ 22) tt

abbrev step_512 : Step binary32 (parts 64) (frac 512 1)
step_512 = step_fine binary32 158 512 1 64 (2 ^ 22) tt

-- ---- a product with a float of at most d in size
mul_by : {h B : Fraction} → Step binary32 h B → {x : Float} {X e b : Fraction} → Close x X e b → (y : Float)
    → T (finite y) → (d : Fraction) → abs_f (value y) ≤F d → b *F d ≤F B
    → (e' : Fraction) → h +F e *F d ≤F e' → Close (x ⊗ y) (X *F value y) e' B
mul_by {h} {B} step {x} {X} {e} {b} c y t d k room e' l =
    close_more l (le_refl B B)
    (close_move
    (step.rounds (mul_rounds binary32 x y c.number t)
    (le_trans (abs_f (value x *F value y)) (b *F d) B (abs_mul (value x) (value y) b d c.small k) room))
    (within_mul_by (value x) X e (value y) d k c.near))

add_by : {h B : Fraction} → Step binary32 h B → {x y : Float} {X Y e g b d : Fraction} → Close x X e b → Close y Y g d
    → b +F d ≤F B → (e' : Fraction) → h +F (e +F g) ≤F e'
    → Close (x ⊕ y) (X +F Y) e' B
add_by {h} {B} step c c' room e' l = close_more l (le_refl B B) (add_near step c c' room)

-- ---- the products, as the formula has them
cubed : (a x : Fraction) → a *F x *F x *F x ≈ a *F (x *F x *F x)
cubed a x = mul_assoc (a *F x) x x ⨟ mul_assoc a x (x *F x) ⨟ mul_same (eq_refl a) (mul_comm x (x *F x))

squared : (a x : Fraction) → a *F x *F x ≈ a *F (x *F x)
squared a x = mul_assoc a x x

module _ (row : CubicRow) (ax : Float) (t : T (finite ax)) where
  abbrev X : Fraction
  X = value ax

  pub near_close : {A B D : Fraction} → Close row.near3 A (frac 0 1) (frac 16 1)
      → Close row.near2 B (frac 0 1) (frac 16 1) → Close row.near0 D (frac 0 1) (frac 8 1) → abs_f X ≤F frac 1 1
      → Close (near_piece row ax) (without_linear_f A B D X) (parts 22) (frac 64 1)
  near_close {A} {B} {D} p q r k =
      let one = frac 1 1 in
      let room : frac 16 1 *F one ≤F frac 16 1 = unfold ◌*F◌ in record { le = lit≤ tt } in
      let p1 = mul_by step_16 p ax t one k room (parts 2) (unfold ◌+F◌ ◌*F◌ in record { le = lit≤ tt }) in
      let p2 = mul_by step_16 p1 ax t one k room (parts 4) (unfold ◌+F◌ ◌*F◌ in record { le = lit≤ tt }) in
      let p3 = mul_by step_16 p2 ax t one k room (parts 6) (unfold ◌+F◌ ◌*F◌ in record { le = lit≤ tt }) in
      let q1 = mul_by step_16 q ax t one k room (parts 2) (unfold ◌+F◌ ◌*F◌ in record { le = lit≤ tt }) in
      let q2 = mul_by step_16 q1 ax t one k room (parts 4) (unfold ◌+F◌ ◌*F◌ in record { le = lit≤ tt }) in
      close_along
      (add_same (A *F X *F X *F X +F B *F X *F X) (A *F (X *F X *F X) +F B *F (X *F X)) D D
      (add_same (A *F X *F X *F X) (A *F (X *F X *F X)) (B *F X *F X) (B *F (X *F X)) (cubed A X) (squared B X))
      (eq_refl D))
      (add_by step_64 (add_by step_32 p3 q2 (unfold ◌+F◌ in record { le = lit≤ tt }) (parts 14) (unfold ◌+F◌ in
      record { le = lit≤ tt })) r (unfold ◌+F◌ in record { le = lit≤ tt }) (parts 22) (unfold ◌+F◌ in
      record { le = lit≤ tt }))

  pub far_close : {A B C D : Fraction} → Close row.far3 A (frac 0 1) (frac 4 1)
      → Close row.far2 B (frac 0 1) (frac 16 1) → Close row.far1 C (frac 0 1) (frac 32 1)
      → Close row.far0 D (frac 0 1) (frac 16 1)
      → abs_f X ≤F frac 2 1 → Close (far_piece row ax) (with_linear_f A B C D X) (parts 148) (frac 512 1)
  far_close {A} {B} {C} {D} p q r s k =
      let two = frac 2 1 in
      let p1 = mul_by step_8 p ax t two k (unfold ◌*F◌ in record { le = lit≤ tt }) (parts 1) (unfold ◌+F◌ ◌*F◌ in
      record { le = lit≤ tt }) in
      let p2 = mul_by step_16 p1 ax t two k (unfold ◌*F◌ in record { le = lit≤ tt }) (parts 4) (unfold ◌+F◌ ◌*F◌ in
      record { le = lit≤ tt }) in
      let p3 = mul_by step_32 p2 ax t two k (unfold ◌*F◌ in record { le = lit≤ tt }) (parts 12) (unfold ◌+F◌ ◌*F◌ in
      record { le = lit≤ tt }) in
      let q1 = mul_by step_32 q ax t two k (unfold ◌*F◌ in record { le = lit≤ tt }) (parts 4) (unfold ◌+F◌ ◌*F◌ in
      record { le = lit≤ tt }) in
      let q2 = mul_by step_64 q1 ax t two k (unfold ◌*F◌ in record { le = lit≤ tt }) (parts 16) (unfold ◌+F◌ ◌*F◌ in
      record { le = lit≤ tt }) in
      let r1 = mul_by step_64 r ax t two k (unfold ◌*F◌ in record { le = lit≤ tt }) (parts 8) (unfold ◌+F◌ ◌*F◌ in
      record { le = lit≤ tt }) in
      close_along
      (add_same (A *F X *F X *F X +F B *F X *F X +F C *F X) (A *F (X *F X *F X) +F B *F (X *F X) +F C *F X) D D
      (add_same (A *F X *F X *F X +F B *F X *F X) (A *F (X *F X *F X) +F B *F (X *F X)) (C *F X) (C *F X)
      (add_same (A *F X *F X *F X) (A *F (X *F X *F X)) (B *F X *F X) (B *F (X *F X)) (cubed A X) (squared B X))
      (eq_refl (C *F X))) (eq_refl D))
      (add_by step_512
      (add_by step_256
      (add_by step_128 p3 q2 (unfold ◌+F◌ in record { le = lit≤ tt }) (parts 44) (unfold ◌+F◌ in
      record { le = lit≤ tt }))
      r1 (unfold ◌+F◌ in record { le = lit≤ tt }) (parts 84) (unfold ◌+F◌ in record { le = lit≤ tt }))
      s (unfold ◌+F◌ in record { le = lit≤ tt }) (parts 148) (unfold ◌+F◌ in record { le = lit≤ tt }))

-- ---- the division by 6
six_number : T (finite six)
unfolding of_bits
six_number = tt

six_value : value six ≈ frac 6 1
unfolding of_bits
six_value = record { eq = refl }

over_six : (x : Fraction) → x /F value six ≈ frac 1 6 *F x
over_six x =
    div_only x (value six) (frac 1 6 *F x) six_positive
    (mul_same (eq_refl (frac 1 6 *F x)) six_value ⨟ mul_same (mul_comm (frac 1 6) x) (eq_refl (frac 6 1)) ⨟ mul_assoc x
    (frac 1 6) (frac 6 1) ⨟ mul_same (eq_refl x) whole ⨟ mul_one x)
  where
    six_positive : frac 0 1 <F value six
    six_positive = unfold of_bits in record { lt = lit< tt }

    whole : frac 1 6 *F frac 6 1 ≈ frac 1 1
    whole = unfold ◌*F◌ in record { eq = refl }

pub sixth_rounds : (v : Float) → T (finite v) → Rounds binary32 (v ⊘ six) (frac 1 6 *F value v)
sixth_rounds v t = rounds_along (over_six (value v))
    (div_rounds binary32 v six t six_number (unfold of_bits abs_f in record { lt = lit< tt }))

pub sixth_close : {h B : Fraction} → Step binary32 h B → {v : Float} {Y e b : Fraction} → Close v Y e b
    → frac 1 6 *F b ≤F B → Close (v ⊘ six) (frac 1 6 *F Y) (h +F frac 1 6 *F e) B
sixth_close {h} {B} step {v} {Y} {e} {b} c room =
    close_move
    (step.rounds (sixth_rounds v c.number)
    (le_trans (abs_f (frac 1 6 *F value v)) (frac 1 6 *F b) B
    (abs_mul (frac 1 6) (value v) (frac 1 6) b (abs_self (frac 1 6) nonneg) c.small) room))
    (within_scale (value v) Y e (frac 1 6) nonneg c.near)
  where
    nonneg : frac 0 1 ≤F frac 1 6
    nonneg = record { le = lit≤ tt }
