-- The first column of the taps is a small number: a coordinate that is reached lies in the floor's domain, and so does
-- the coordinate plus 0.5, since half an ulp there is tiny; a floor there is at most 2^31 in size, and one is taken
-- from it at most. Provides: `reached_number`, `reached_domain`, `rounded_domain`, `floor_small`, `rounded_small`,
-- `first_small`; `moved_small`, `before_small` (an index plus or less a few). Assumes nothing.
use mathlib.Core.Path.{refl, sym, subst}
use mathlib.Core.Bool.{Bool, true, false, cond}
use Prim.Native.Nat.{ℕ, zero, suc, ◌+◌, ◌-◌, ◌*◌, ◌^◌, ◌≤◌}
use native.Mathlib.Nat.{le_trans}
use native.Mathlib.Omega.{arith}
use lib.IntN.{ℤ, pos, negsuc, pred_ℤ, ◌+ℤ◌, ◌-ℤ◌, -ℤ_one}
use lib.Signed.{mag}
use lib.Dec.{T, ltb, le→leb, lit≤}
use lib.Ieee.{Float, nan, inf, fin, binary64, up, down, of_bits}
use lib.Ieee.Fits.{down_pos}
use lib.Ieee.Scale.{finite}
use Rattle.exact.specs.Double.{◌⊕◌}
use Rattle.exact.specs.Fraction.{frac, value, ◌≤F◌, ◌≈◌, ◌+F◌, abs_f}
use Rattle.exact.specs.Rounds.{Close}
use Rattle.exact.specs.Warp.{half}
use Rattle.exact.proofs.Integer.{mag_le}
use Rattle.exact.proofs.Near.{eq_le}
use Rattle.exact.proofs.Near as Near
use Rattle.exact.proofs.Products.{le_same}
use Rattle.exact.proofs.Signed.{le_signed, le_value}
use Rattle.exact.proofs.Operations.{add_rounds}
use Rattle.exact.proofs.Bounds.{rounds_bound}
use Rattle.exact.proofs.Steps.{abs_add}
use Rattle.number.specs.Floor.{in_domain, floorℤ, floor_i64}
use Rattle.number.specs.Magnitude.{abs, within}
use Rattle.number.proofs.FloorLaws.{floor_size, floor_integer}
use Rattle.number.proofs.MagnitudeLaws.{abs_limited}
use Rattle.taps.specs.Cell.{index_limit, Reached, rounded, first}
use Rattle.taps.specs.declared.interpolation.Interpolation.{Interpolation}
use Rattle.taps.specs.declared.interpolation.Interpolation.TheVariants.{
  Integer,
  Nearest,
  Average,
  Average9,
  Average16,
  Bilinear,
  Catrom,
  Spline,
  Background,
}
use Rattle.cubic.proofs.Sizes.{abs_magnitude}

-- ---- what a coordinate that is reached is
reach_number : T (finite index_limit)
unfolding of_bits
reach_number = tt

pub reached_number : (x : Float) → Reached x → T (finite x)
unfolding within
reached_number x h = abs_limited x index_limit reach_number h

pub reached_size : (x : Float) → Reached x → abs_f (value x) ≤F frac 1073741825 1
unfolding within
reached_size x h =
    let n = reached_number x h in
    let m = abs_magnitude x n in
    le_same m.1 reach_value ((le_value (abs x) index_limit m.0 reach_number).0 h)
  where
    reach_value : value index_limit ≈ frac 1073741825 1
    reach_value = unfold of_bits in record { eq = refl }

-- ---- the floor's domain
unsigned_domain : (x : Float) → T (finite x) → value (abs x) ≤F frac 2147483648 1 → T (in_domain x)
unfolding in_domain abs
unsigned_domain nan n h = absurd n
unsigned_domain (inf s) n h = absurd n
unsigned_domain (fin s m e) n h =
    le→leb (m * up e) (2147483648 * down e)
    (plain (m * up e) (down e) (le_signed false (m * up e) (down e) false 2147483648 1 (down_pos e) (lit≤ tt) h))
  where
    plain : (a c : ℕ) → a * 1 + 0 ≤ 2147483648 * c + 0 → a ≤ 2147483648 * c
    plain a c h = omega arith

in_domain_law : (x : Float) → T (finite x) → abs_f (value x) ≤F frac 2147483648 1 → T (in_domain x)
in_domain_law x n h =
    let m = abs_magnitude x n in
    unsigned_domain x n (Near.le_trans (value (abs x)) (abs_f (value x)) (frac 2147483648 1)
    (eq_le (value (abs x)) (abs_f (value x)) m.1) h)

pub reached_domain : (x : Float) → Reached x → T (in_domain x)
reached_domain x h =
    in_domain_law x (reached_number x h)
    (Near.le_trans (abs_f (value x)) (frac 1073741825 1) (frac 2147483648 1) (reached_size x h)
    (record { le = lit≤ tt }))

pub rounded_domain : (x : Float) → Reached x → T (in_domain (x ⊕ half))
rounded_domain x h = let c = sum in in_domain_law (x ⊕ half) c.number c.small
  where
    half_number : T (finite half)
    half_number = unfold of_bits in tt

    half_size : abs_f (value half) ≤F frac 1 2
    half_size = unfold of_bits abs_f in record { le = lit≤ tt }

    sum : Close (x ⊕ half) (value x +F value half) (frac 1 (2 ^ 23)) (frac 2147483648 1)
    sum =
        rounds_bound (add_rounds binary64 x half (reached_number x h) half_number) 1105 2147483648 1 1 (2 ^ 23) tt
        (Near.le_trans (abs_f (value x +F value half)) (frac 1073741825 1 +F frac 1 2) (frac 2147483648 1)
        (abs_add (value x) (value half) (frac 1073741825 1) (frac 1 2) (reached_size x h) half_size)
        (unfold ◌+F◌ in record { le = lit≤ tt }))

-- ---- sizes
floor_mag : (x : Float) → T (in_domain x) → mag (floor_i64 x) ≤ 2147483648
floor_mag x d = subst (λ (z : ℤ). mag z ≤ 2147483648) (sym (floor_integer x d))
    (le_trans (mag_le (floorℤ x)) (floor_size x d))

pub floor_small : (x : Float) → Reached x → mag (floor_i64 x) ≤ 2147483648
floor_small x h = floor_mag x (reached_domain x h)

pub rounded_small : (x : Float) → Reached x → mag (rounded x) ≤ 2147483648
rounded_small x h = floor_mag (x ⊕ half) (rounded_domain x h)

pub before_small : (z : ℤ) → mag z ≤ 2147483648 → mag (z -ℤ pos 1) ≤ 2147483649
before_small z h = subst (λ (y : ℤ). mag y ≤ 2147483649) (sym (-ℤ_one z)) (go z h)
  where
    go : (z : ℤ) → mag z ≤ 2147483648 → mag (pred_ℤ z) ≤ 2147483649
    go (pos zero) h = omega arith
    go (pos (suc n)) h = omega arith
    go (negsuc n) h = omega arith

pub moved_small : (z : ℤ) (k b : ℕ) → mag z ≤ b → mag (z +ℤ pos k) ≤ b + k
moved_small (pos a) k b h = omega arith
moved_small (negsuc a) k b h = go (ltb k (suc a))
  where
    go : (t : Bool) → mag (cond t (negsuc (suc a - suc k)) (pos (k - suc a))) ≤ b + k
    go true = omega arith
    go false = omega arith

more : {n : ℕ} → n ≤ 2147483648 → n ≤ 2147483649
more h = omega arith

pub first_small : (i : Interpolation) (x : Float) → Reached x → mag (first i x) ≤ 2147483649
first_small Integer x h = more (floor_small x h)
first_small Nearest x h = more (rounded_small x h)
first_small Average x h = more (floor_small x h)
first_small Average9 x h = before_small (rounded x) (rounded_small x h)
first_small Average16 x h = before_small (floor_i64 x) (floor_small x h)
first_small Bilinear x h = more (floor_small x h)
first_small Catrom x h = before_small (floor_i64 x) (floor_small x h)
first_small Spline x h = before_small (floor_i64 x) (floor_small x h)
first_small Background x h = more (floor_small x h)
