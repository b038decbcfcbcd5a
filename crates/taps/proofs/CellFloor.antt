-- A point that is reached lies in the cell that the code gives it: the floor of a float is the floor of its value, by
-- the laws of the division that both are; the floor as a float has that value too, and narrowing is one rounding. So
-- the exact law of a cell applies. Provides: `floor_value`, `finite_number`, `narrow_rounds`, `rest_number`,
-- `cell_law`; `reached_of`, `less_half_reached`, `usable_reached` (a usable coordinate less 0.5 is reached). Assumes
-- nothing.
use mathlib.Core.Path.{◌≡◌, refl, sym, ap, ◌∙◌, subst}
use mathlib.Core.Bool.{Bool, true, false, not, cond}
use Prim.Native.Nat.{ℕ, ◌+◌, ◌*◌, ◌^◌, ◌≤◌, ◌<◌}
use native.Mathlib.Nat.{zero-mul}
use native.Mathlib.Omega.{arith}
use lib.IntN.{ℤ, pos, negsuc, nat_abs, suc_ℤ}
use lib.Dec.{T, le→leb, lt→ltb, eqb→eq, lit≤}
use lib.Ieee.{Float, nan, inf, fin, binary32, binary64, up, down, of_int, in_float, is_nan, of_bits}
use lib.Ieee.Fits.{down_pos}
use lib.Ieee.Scale.{finite}
use Rattle.exact.specs.Double.{◌⊖◌, usable_limit}
use Rattle.exact.specs.Fraction.{frac, whole, value, ◌≤F◌, ◌<F◌, ◌≈◌, ◌+F◌, ◌-F◌, abs_f}
use Rattle.exact.specs.Rounds.{Rounds, Close}
use Rattle.exact.specs.Surface.{floor_f}
use Rattle.exact.specs.Warp.{half, InCell}
use Rattle.exact.proofs.Scale.{At, at_le, at_lt, at_eq, at_add}
use Rattle.exact.proofs.Near as Near
use Rattle.exact.proofs.Products.{eq_refl, back, at_zero, at_one, le_same, lt_le_trans}
use Rattle.exact.proofs.NearProducts.{abs_near}
use Rattle.exact.proofs.Magnitude.{sized_signed}
use Rattle.exact.proofs.Signed.{le_value}
use Rattle.exact.proofs.Floor.{plusℤ, minusℤ, at_whole, whole_next, floor_only, floor_same, floor_whole}
use Rattle.exact.proofs.Operations.{sub_rounds, int_value}
use Rattle.exact.proofs.Bounds.{rounds_bound}
use Rattle.exact.proofs.Steps.{abs_sub}
use Rattle.exact.proofs.Cell.{cell_rest, cell_of}
use Rattle.number.specs.Floor.{floorℤ, in_domain, is_zero, floor_i64, floor_f64}
use Rattle.number.specs.Magnitude.{abs, within}
use Rattle.number.specs.Narrow.{narrow}
use Rattle.number.proofs.FloorLaws.{
  floor_below,
  floor_above,
  floor_size,
  floor_integer,
  floor_float,
  floor_zero,
}
use Rattle.number.proofs.MagnitudeLaws.{abs_limited}
use Rattle.taps.specs.Cell.{index_limit, Reached, fraction}
use Rattle.taps.proofs.CellLaws.{reached_number, reached_domain}
use Rattle.cubic.proofs.Sizes.{abs_magnitude}

-- ---- the floor of a float and of its value
module _ (s : Bool) (m : ℕ) (e : ℤ) where
  k : ℤ
  k = floorℤ (fin s m e)

  own : At (down e) (value (fin s m e)) (cond s 0 (m * up e)) (cond s (m * up e) 0)
  own = sized_signed s (m * up e) (down e) (down_pos e)

  lower : whole k ≤F value (fin s m e)
  unfolding k
  lower =
      at_le (down e) (down_pos e) (at_whole (down e) (floorℤ (fin s m e))) own (floor_below s m e)

  upper : value (fin s m e) <F whole (suc_ℤ k)
  unfolding k
  upper =
      lt_le_trans
      (at_lt (down e) (down_pos e) own (at_add (at_whole (down e) (floorℤ (fin s m e))) (at_one (down e)))
      (turned (cond s 0 (m * up e)) (cond s (m * up e) 0) (plusℤ (floorℤ (fin s m e)) * down e)
      (minusℤ (floorℤ (fin s m e)) * down e) (down e) (floor_above s m e)))
      (Near.eq_le (whole (floorℤ (fin s m e)) +F frac 1 1) (whole (suc_ℤ (floorℤ (fin s m e))))
      (back (whole_next (floorℤ (fin s m e)))))
    where
      turned : (a b p q d : ℕ) → a + q < b + p + d → a + (q + 0) < p + d + b
      turned a b p q d h = omega arith

pub floor_value : (x : Float) → T (finite x) → floor_f (value x) ≡ floorℤ x
unfolding k
floor_value nan n = absurd n
floor_value (inf s) n = absurd n
floor_value (fin s m e) n = floor_only (value (fin s m e)) (floorℤ (fin s m e)) (lower s m e) (upper s m e)

pub finite_number : (x : Float) → T (finite x) → T (not (is_nan x))
finite_number nan h = absurd h
finite_number (inf s) h = absurd h
finite_number (fin s m e) h = unfold is_nan in tt

-- ---- narrowing is one rounding
pub narrow_rounds : (x : Float) → T (finite x) → Rounds binary32 (narrow x) (value x)
unfolding narrow
narrow_rounds nan n = absurd n
narrow_rounds (inf s) n = absurd n
narrow_rounds (fin s m e) n =
    record {
      sign = s;
      num = m * up e;
      den = down e;
      den_pos = down_pos e;
      is = refl;
      exact = eq_refl (value (fin s m e));
    }

-- ---- the floor as a float
zero_value : (x : Float) → T (is_zero x) → value x ≈ frac 0 1
unfolding is_zero
zero_value nan z = absurd z
zero_value (inf s) z = absurd z
zero_value (fin s m e) z =
    at_eq (down e) (down_pos e) (own s m e) (at_zero (down e))
    (flat s (m * up e) (ap (λ (n : ℕ). n * up e) (eqb→eq m 0 z) ∙ zero-mul (up e)))
  where
    flat : (s : Bool) (a : ℕ) → a ≡ 0 → cond s 0 a + 0 ≡ 0 + cond s a 0
    flat true a h = omega arith
    flat false a h = omega arith

held : (z : ℤ) → nat_abs z ≤ 2147483648 → T (in_float binary64 z)
unfolding in_float
held (pos n) h = le→leb n (2 ^ 53) (omega arith)
held (negsuc n) h = lt→ltb n (2 ^ 53) (omega arith)

module _ (x : Float) (r : Reached x) where
  float_floor : T (finite (floor_f64 x)) × (value (floor_f64 x) ≈ whole (floor_f (value x)))
  float_floor = pick (is_zero x) (λ t. t) (λ t. t)
    where
      n : T (finite x)
      n = reached_number x r

      d : T (in_domain x)
      d = reached_domain x r

      pick : (b : Bool) → (T b → T (is_zero x)) → (T (not b) → T (not (is_zero x))) → T (finite (floor_f64 x))
          × (value (floor_f64 x) ≈ whole (floor_f (value x)))
      pick true f g =
          let e : floor_f64 x ≡ x = floor_zero x d (f tt) in
          let z : value x ≈ frac 0 1 = zero_value x (f tt) in (
            subst (λ (y : Float). T (finite y)) (sym e) n,
            subst (λ (y : Float). value y ≈ whole (floor_f (value x))) (sym e)
                (subst (λ (j : ℤ). value x ≈ whole j) (sym (floor_same z ∙ floor_whole (pos 0))) z),
          )
      pick false f g =
          let e : floor_f64 x ≡ of_int binary64 (floorℤ x) = floor_float x d (g tt) in
          let v = int_value binary64 (floorℤ x) (held (floorℤ x) (floor_size x d)) in (
            subst (λ (y : Float). T (finite y)) (sym e) v.0,
            subst (λ (y : Float). value y ≈ whole (floor_f (value x))) (sym e)
                (subst (λ (j : ℤ). value (of_int binary64 (floorℤ x)) ≈ whole j) (sym (floor_value x n)) v.1),
          )

  -- what x has beyond its floor
  pub rest_number : T (not (is_nan (x ⊖ floor_f64 x)))
  rest_number = finite_number (x ⊖ floor_f64 x)
      (cell_rest x (floor_f64 x) (reached_number x r) float_floor.0 float_floor.1).0

  pub cell_law : InCell x (floor_i64 x) (fraction x)
  cell_law =
      let n = reached_number x r in
      subst (λ (j : ℤ). InCell x j (fraction x)) (floor_value x n ∙ sym (floor_integer x (reached_domain x r)))
      (cell_of x (floor_f64 x) n float_floor.0 float_floor.1 (fraction x)
      (narrow_rounds (x ⊖ floor_f64 x) (cell_rest x (floor_f64 x) n float_floor.0 float_floor.1).0))

-- ---- from a size to what is reached
reach_number : T (finite index_limit)
reach_number = unfold of_bits in tt

reach_value : frac 1073741825 1 ≈ value index_limit
reach_value = unfold of_bits in record { eq = refl }

pub reached_of : (x : Float) → T (finite x) → abs_f (value x) ≤F frac 1073741825 1 → Reached x
unfolding within
reached_of x n h = let m = abs_magnitude x n in
    (le_value (abs x) index_limit m.0 reach_number).1 (le_same (back m.1) reach_value h)

usable_number : T (finite usable_limit)
usable_number = unfold of_bits in tt

usable_value : value usable_limit ≈ frac 1073741824 1
usable_value = unfold of_bits in record { eq = refl }

half_number : T (finite half)
half_number = unfold of_bits in tt

half_size : abs_f (value half) ≤F frac 1 2
half_size = unfold of_bits abs_f in record { le = lit≤ tt }

-- a number of at most b, less 0.5: the rounding adds little
module _ (u : Float) (b : ℕ) (n : T (finite u)) (size : abs_f (value u) ≤F frac b 1) where
  less_size : abs_f (value u -F value half) ≤F frac b 1 +F frac 1 2
  less_size = abs_sub (value u) (value half) (frac b 1) (frac 1 2) size half_size

  pub less_half_reached : b ≤ 1073741824 → Reached (u ⊖ half)
  less_half_reached l =
      reached_of (u ⊖ half) c.number
      (Near.le_trans (abs_f (value (u ⊖ half))) (frac b 1 +F frac 1 2 +F frac 1 (2 ^ 23)) (frac 1073741825 1)
      (abs_near (value (u ⊖ half)) (value u -F value half) (frac 1 (2 ^ 23)) (frac b 1 +F frac 1 2) c.near
      less_size) (unfold ◌+F◌ in record { le = omega arith }))
    where
      c : Close (u ⊖ half) (value u -F value half) (frac 1 (2 ^ 23)) (frac 2147483648 1)
      c =
          rounds_bound (sub_rounds binary64 u half n half_number) 1105 2147483648 1 1 (2 ^ 23) tt
          (Near.le_trans (abs_f (value u -F value half)) (frac b 1 +F frac 1 2) (frac 2147483648 1) less_size
          (unfold ◌+F◌ in record { le = omega arith }))

pub usable_reached : (u : Float) → T (within usable_limit u) → Reached (u ⊖ half)
unfolding within
usable_reached u h =
    let n = abs_limited u usable_limit usable_number h in
    let m = abs_magnitude u n in
    less_half_reached u 1073741824 n
    (le_same m.1 usable_value ((le_value (abs u) usable_limit m.0 usable_number).0 h))
    (lit≤ tt)
