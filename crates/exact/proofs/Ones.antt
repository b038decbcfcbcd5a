-- Where f32 arithmetic with 1 is exact: w times 1 has w's sign and size, and x over x is 1. Of numbers above 0 the
-- value fixes the float, since the sign is known. Provides: `times_one`, `positive_sign` (a number above 0 has no sign
-- bit), `positive_only`, `over_itself`, `above_least` (half is above 1e-9). Assumes nothing.
use mathlib.Core.Path.{◌≡◌, refl, subst}
use mathlib.Core.Bool.{Bool, true, false}
use Prim.Native.Nat.{ℕ, ◌+◌, ◌*◌, ◌<◌}
use native.Mathlib.Omega.{arith}
use lib.IntN.{ℤ, pos}
use lib.Dec.{T, lit<}
use lib.Ieee.{Float, nan, inf, fin, Format, binary32, up, down, mul, of_bits, fits, lt}
use lib.Ieee.Fits.{down_pos}
use lib.Ieee.Scale.{finite}
use Rattle.exact.specs.Fraction.{over, frac, value, ◌≤F◌, ◌<F◌, ◌≈◌, abs_f}
use Rattle.exact.specs.Single.{◌⊗◌, ◌⊘◌}
use Rattle.exact.specs.Weighted.{one, least}
use Rattle.exact.proofs.Near.{le_refl, eq_le}
use Rattle.exact.proofs.Products.{back, one_mul, lt_le_trans}
use Rattle.exact.proofs.NearProducts.{abs_open}
use Rattle.exact.proofs.Quotients.{div_only}
use Rattle.exact.proofs.Held.{round_held}
use Rattle.exact.proofs.Value.{unique}
use Rattle.exact.proofs.Signed.{eq_signed, finite_both, lt_value}
use Rattle.exact.proofs.Monotone.{rounds_fits, rounds_exact}
use Rattle.exact.proofs.Operations.{div_rounds}

-- ---- w times 1 is w, a zero with its sign too
pub times_one : (w : Float) → T (fits binary32 w) → T (finite w) → w ⊗ one ≡ w
unfolding mul of_bits
times_one nan h t = absurd t
times_one (inf s) h t = absurd t
times_one (fin s m e) h t = go s h
  where
    same : (n d : ℕ) → n * (d * 1) ≡ n * 1 * d
    same n d = omega arith

    positive : (d : ℕ) → 0 < d → 0 < d * 1
    positive d h = omega arith

    go : (s : Bool) → T (fits binary32 (fin s m e)) → mul binary32 (fin s m e) one ≡ fin s m e
    go true h = round_held binary32 (fin true m e) true (m * up e * 1) (down e * 1) (positive (down e) (down_pos e)) h
        (refl, same (m * up e) (down e))
    go false h = round_held binary32 (fin false m e) false (m * up e * 1) (down e * 1) (positive (down e) (down_pos e))
        h (refl, same (m * up e) (down e))

-- ---- numbers above 0
no_sign : (s : Bool) (m : ℕ) (e : ℤ) → frac 0 1 <F value (fin s m e) → s ≡ false
no_sign false m e h = refl
no_sign true m e h = absurd (go (m * up e) (over (value (fin true m e))) h.lt)
  where
    go : (a o : ℕ) → 0 * o + a * 1 < 0 * 1 + 0 * o → ⊥
    go a o l = omega arith

pub positive_sign : (x : Float) → T (finite x) → frac 0 1 <F value x → (m : ℕ) × (e : ℤ) × (x ≡ fin false m e)
positive_sign nan t h = absurd t
positive_sign (inf s) t h = absurd t
positive_sign (fin s m e) t h = (m, e, λ i. fin (no_sign s m e h i) m e)

pub positive_only : (f : Format) (x y : Float) → T (finite x) → T (finite y) → T (fits f x) → T (fits f y)
    → frac 0 1 <F value y → value x ≈ value y → x ≡ y
positive_only f = finite_both (λ x y. T (fits f x) → T (fits f y) → frac 0 1 <F value y → value x ≈ value y → x ≡ y)
    (λ s m e t n d p q h k. go s m e t n d p q (no_sign t n d h)
    (no_sign s m e (lt_le_trans h (eq_le (value (fin t n d)) (value (fin s m e)) (back k)))) k)
  where
    plain : (a b : ℕ) → a + 0 ≡ b + 0 → a ≡ b
    plain a b h = omega arith

    go : (s : Bool) (m : ℕ) (e : ℤ) (t : Bool) (n : ℕ) (d : ℤ) → T (fits f (fin s m e)) → T (fits f (fin t n d))
        → t ≡ false → s ≡ false → value (fin s m e) ≈ value (fin t n d) → fin s m e ≡ fin t n d
    go true m e t n d p q h k l = absurd (subst (λ (b : Bool). T b) k tt)
    go false m e true n d p q h k l = absurd (subst (λ (b : Bool). T b) h tt)
    go false m e false n d p q h k l =
        unique f f (fin false m e) (fin false n d) false (n * up d) (down d) (down_pos d) p q (
          refl,
          plain (m * up e * down d) (n * up d * down e)
              (eq_signed false (m * up e) (down e) false (n * up d) (down d) (down_pos e) (down_pos d) l),
        ) (refl, refl)

-- ---- x over x
one_fits : T (fits binary32 (fin false 1 (pos 0)))
unfolding fits
one_fits = tt

pub over_itself : (x : Float) → T (finite x) → frac 0 1 <F value x → x ⊘ x ≡ fin false 1 (pos 0)
over_itself x t h =
    let u = fin false 1 (pos 0) in
    let R = div_rounds binary32 x x t t
    (lt_le_trans h (abs_open (value x) (abs_f (value x)) (le_refl (abs_f (value x)) (abs_f (value x)))).0) in
    let w = rounds_exact R u one_fits tt (div_only (value x) (value x) (frac 1 1) h (one_mul (value x))) in
    positive_only binary32 (x ⊘ x) u w.0 tt (rounds_fits R) one_fits (record { lt = lit< tt }) w.1

-- ---- a number of a half at least passes the Rust's test
pub above_least : (x : Float) → T (finite x) → frac 1 2 ≤F value x → T (lt least x)
above_least x t h = (lt_value least x least_number t).1 (lt_le_trans small h)
  where
    least_number : T (finite least)
    least_number = unfold of_bits in tt

    small : value least <F frac 1 2
    small = unfold of_bits in record { lt = lit< tt }
