-- A quotient of two sums: the denominator is at least 1 / 1,024 and its error tiny beside that, so both errors are
-- divided by it once, and then one rounding. Provides: `denominator_least`, `denominator_passes` (above 1e-12),
-- `quotient_close`; of two sums of three terms: `perspective_passes` and `perspective_close` (within 10241 / 2 ^ 38,
-- that is 0.6251 of 2 ^ -24, and at most 16,385 in size). Assumes nothing.
use mathlib.Core.List.{[], ◌∷◌}
use mathlib.Core.Path.{◌≡◌, refl}
use mathlib.Core.Bool.{Bool, true, false}
use Prim.Native.Nat.{◌^◌}
use native.Mathlib.Nat.{lt_irrefl}
use native.Mathlib.Omega.{arith}
use lib.Dec.{T, lit≤, lit<}
use lib.Ieee.{Float, binary64, of_bits, le}
use lib.Ieee.Scale.{finite}
use Rattle.exact.specs.Fraction.{Fraction, frac, value, ◌≤F◌, ◌<F◌, ◌+F◌, ◌*F◌, ◌/F◌, abs_f, Within}
use Rattle.exact.specs.Rounds.{Close}
use Rattle.exact.specs.Double.{◌⊘◌, least_divisor}
use Rattle.exact.specs.Sums.{linear, linear_f, PixelCoordinate, Linear}
use Rattle.exact.proofs.Scale.{at_le, le_at, at_add, common}
use Rattle.exact.proofs.Near.{le_refl, le_trans, within_open, within_more}
use Rattle.exact.proofs.Products.{lt_le_trans}
use Rattle.exact.proofs.NearProducts.{abs_near}
use Rattle.exact.proofs.Quotients.{within_div}
use Rattle.exact.proofs.Signed.{le_value}
use Rattle.exact.proofs.Operations.{div_rounds}
use Rattle.exact.proofs.Steps.{close_more, close_move}
use Rattle.exact.proofs.Bounds.{rounds_bound}
use Rattle.exact.proofs.Ranges.{abs_grow}
use Rattle.exact.proofs.Powers.{close_size}
use Rattle.exact.proofs.Linear.{linear_terms, linear_small}

-- ---- the denominator: 2 ^ -10 - 2 ^ -49 at least
abbrev b : Fraction
b = frac 549755813887 (2 ^ 49)

abbrev f : Fraction
f = frac 1 (2 ^ 49)

less : b +F f ≤F frac 1 1024
unfolding ◌+F◌
less = record { le = lit≤ tt }

cancel : (x y z : Fraction) → x +F z ≤F y +F z → x ≤F y
cancel x y z h =
    common (x ∷ y ∷ z ∷ []) (λ D D0 ((_, _, X), ((_, _, Y), ((_, _, Z), _))). let k = le_at D D0 (at_add X Z)
    (at_add Y Z) h in at_le D D0 X Y (omega arith))

module _ {d : Float} {D s : Fraction} (c : Close d D f s) (h : frac 1 1024 ≤F D) where
  pub denominator_least : b ≤F value d
  denominator_least =
      cancel b (value d) f
      (le_trans (b +F f) (frac 1 1024) (value d +F f) less
      (le_trans (frac 1 1024) D (value d +F f) h (within_open (value d) D f c.near).1))

  -- the code's test `wq <= 1e-12` fails
  pub denominator_passes : le d least_divisor ≡ false
  denominator_passes = go (le d least_divisor)
      (λ t. (le_value d least_divisor c.number tiny).0 t)
    where
      tiny : T (finite least_divisor)
      tiny = unfold of_bits in tt

      under : value least_divisor <F b
      under = unfold of_bits in record { lt = lit< tt }

      far : b ≤F value least_divisor → ⊥
      far h = lt_irrefl _ (lt_le_trans under h).lt

      go : (t : Bool) → (T t → value d ≤F value least_divisor) → t ≡ false
      go true k = absurd (far (le_trans b (value d) (value least_divisor) denominator_least
          (k tt)))
      go false k = refl

-- ---- the quotient
abbrev e : Fraction
e = frac 1 (2 ^ 37)

abbrev q : Fraction
q = frac 16384 1

abbrev w : Fraction
w = frac 20481 (2 ^ 39)

b0 : frac 0 1 <F b
b0 = record { lt = lit< tt }

share : (e +F q *F f) /F b ≤F w
unfolding ◌+F◌ ◌*F◌ ◌/F◌
share = record { le = lit≤ tt }

room : q +F w ≤F frac 32768 1
unfolding ◌+F◌
room = record { le = lit≤ tt }

parts : frac 1 (2 ^ 39) +F w ≤F frac 10241 (2 ^ 38)
unfolding ◌+F◌
parts = record { le = lit≤ tt }

small : q +F frac 10241 (2 ^ 38) ≤F frac 16385 1
unfolding ◌+F◌
small = record { le = lit≤ tt }

module _ {n d : Float} {N D r s : Fraction} (top : Close n N e r) (under : Close d D f s) (h : frac 1 1024 ≤F D)
    (k : abs_f (N /F D) ≤F q) where
  pub quotient_close : Close (n ⊘ d) (N /F D) (frac 10241 (2 ^ 38)) (frac 16385 1)
  quotient_close =
      let l : b ≤F value d = denominator_least under h in
      let Z : Fraction = value n /F value d in
      let m : Within Z (N /F D) w =
      within_more Z (N /F D) ((e +F q *F f) /F b) w share
      (within_div (value n) N (value d) D e f b q b0 l (lt_le_trans above h) k top.near under.near) in
      let c : Close (n ⊘ d) Z (frac 1 (2 ^ 39)) (frac 32768 1) =
      rounds_bound (div_rounds binary64 n d top.number under.number
      (lt_le_trans b0 (le_trans b (value d) (abs_f (value d)) l (abs_grow (value d))))) 1089 32768 1 1 (2 ^ 39) tt
      (le_trans (abs_f Z) (q +F w) (frac 32768 1) (abs_near Z (N /F D) w q m k) room) in
      close_size q (frac 16385 1) (close_more parts (le_refl (frac 32768 1) (frac 32768 1)) (close_move c m)) k small
    where
      above : frac 0 1 <F frac 1 1024
      above = record { lt = lit< tt }

-- of two sums of three terms
module _ {x y : Float} {X Y : Fraction} (c : PixelCoordinate x X) (d : PixelCoordinate y Y) {m n o : Float}
    (L : Linear m n o X Y (frac 4 1)) (h : frac 1 1024 ≤F linear_f m n o X Y) where
  pub perspective_passes : le (linear m n o x y) least_divisor ≡ false
  perspective_passes = denominator_passes (linear_small c d L) h

  pub perspective_close : {m' n' o' : Float} → Linear m' n' o' X Y (frac 16384 1)
      → abs_f (linear_f m' n' o' X Y /F linear_f m n o X Y) ≤F frac 16384 1
      → Close (linear m' n' o' x y ⊘ linear m n o x y) (linear_f m' n' o' X Y /F linear_f m n o X Y)
      (frac 10241 (2 ^ 38)) (frac 16385 1)
  perspective_close M k = quotient_close (linear_terms c d M) (linear_small c d L) h k
