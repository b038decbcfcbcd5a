-- Bounds as closed fractions: a bound b / d that is a power of two and an error e / g are checked against the format's
-- unit by one computed test, so that a caller writes numbers and `tt`. Provides: `rounds_bound`, the law for both
-- formats and every power of two; `rounds_unit` (what lies from 0 to 1 rounds so); and examples: `within32_0`, `third`
-- (1 / 3 in f32), `halfway`, `met` (the bound is reached), `one_third` (1 / -3 in f64). Assumes nothing.
use mathlib.Core.Path.{◌≡◌, refl, sym, ap, subst}
use mathlib.Core.Bool.{Bool, true, false, ◌&&◌}
use Prim.Native.Nat.{ℕ, ◌+◌, ◌-◌, ◌*◌, ◌^◌, ◌≤◌, ◌<◌}
use native.Mathlib.Nat.{mul-pos, zero-lt-suc}
use native.Mathlib.Omega.{arith}
use lib.IntN.{pos, negsuc}
use lib.Dec.{T, leb, ltb, eqb, leb→le, ltb→lt, eqb→eq, lit≤, lit<}
use lib.Pow.{pow_pos}
use lib.Ieee.{Float, fin, Format, binary32, binary64, prec, emax, low, round, div, fits}
use lib.Ieee.Scale.{finite}
use lib.Ieee.Fits.{and_l, and_r}
use Rattle.exact.specs.Fraction.{Fraction, frac, value, ◌≤F◌, ◌<F◌, ◌≈◌, ◌/F◌, abs_f, distance, Within, Unit01}
use Rattle.exact.specs.Rounds.{Rounds, Close, power_f, half_ulp, fine}
use Rattle.exact.proofs.Near.{le_trans, eq_le, eq_sym}
use Rattle.exact.proofs.Signed.{signed_le, signed_eq}
use Rattle.exact.proofs.NearProducts.{abs_unit}
use Rattle.exact.proofs.Rounds.{rounds_self, rounds_within}
use Rattle.exact.proofs.Monotone.{rounds_nonneg, rounds_at_most, rounds_no_larger}
use Rattle.exact.proofs.Steps.{close_more}
use Rattle.exact.proofs.Operations.{div_rounds}

-- ---- the law of closed bounds
pub rounds_bound : {f : Format} {r : Float} {X : Fraction} → Rounds f r X → (K b d e g : ℕ) → T (fine f K b d e g)
    → abs_f X ≤F frac b d → Close r X (frac e g) (frac b d)
rounds_bound {f} {r} {X} R K b d e g t h =
    let v : Bool = leb K (low f + emax f) in
    let w : Bool = ltb 0 d in
    let x : Bool = ltb 0 g in
    let y : Bool = eqb (b * 2 ^ low f) (2 ^ K * d) in
    let z : Bool = leb (2 ^ (K - prec f) * g) (e * (2 ^ low f * 2)) in
    let t1 = and_r v (w && (x && (y && z))) t in
    let t2 = and_r w (x && (y && z)) t1 in
    let t3 = and_r x (y && z) t2 in
    go (leb→le K (low f + emax f) (and_l v (w && (x && (y && z))) t)) (ltb→lt 0 d (and_l w (x && (y && z)) t1))
    (ltb→lt 0 g (and_l x (y && z) t2)) (eqb→eq (b * 2 ^ low f) (2 ^ K * d) (and_l y z t3))
    (leb→le (2 ^ (K - prec f) * g) (e * (2 ^ low f * 2)) (and_r y z t3))
  where
    go : K ≤ low f + emax f → 0 < d → 0 < g → b * 2 ^ low f ≡ 2 ^ K * d → 2 ^ (K - prec f) * g ≤ e * (2 ^ low f * 2)
        → Close r X (frac e g) (frac b d)
    go top D G same small =
        let s : frac b d ≈ power_f f K =
        signed_eq false b d false (2 ^ K) (2 ^ low f) D (pow_pos (low f)) (ap (λ (z : ℕ). z + 0) same) in
        close_more (signed_le false (2 ^ (K - prec f)) (2 ^ low f * 2) false e g
        (mul-pos (pow_pos (low f)) (zero-lt-suc 1)) G (plain (2 ^ (K - prec f) * g) (e * (2 ^ low f * 2)) small))
        (eq_le (power_f f K) (frac b d) (eq_sym (frac b d) (power_f f K) s))
        (rounds_within R K top (le_trans (abs_f X) (frac b d) (power_f f K) h (eq_le (frac b d) (power_f f K) s)))
      where
        plain : (x y : ℕ) → x ≤ y → x + 0 ≤ y + 0
        plain x y h = omega arith

-- ---- from 0 to 1 before, from 0 to 1 after
one_fits : (f : Format) → T (fits f (fin false 1 (pos 0)))
unfolding fits
one_fits binary32 = tt
one_fits binary64 = tt

one_size : frac 1 1 ≤F abs_f (frac 1 1)
unfolding abs_f
one_size = record { le = lit≤ tt }

pub rounds_unit : {f : Format} {r : Float} {X : Fraction} → Rounds f r X → Unit01 X → T (finite r) × Unit01 (value r)
rounds_unit {f} {r} {X} R h =
    let one = fin false 1 (pos 0) in
    let t = (rounds_no_larger R one (one_fits f) tt
    (le_trans (abs_f X) (frac 1 1) (abs_f (frac 1 1)) (abs_unit X h) one_size)).0 in
    (t, (rounds_nonneg R t h.0, rounds_at_most R one (one_fits f) tt t h.1))

-- ---- examples
pub within32_0 : {r : Float} {X : Fraction} → Rounds binary32 r X → abs_f X ≤F frac 1 1
    → Close r X (frac 1 (2 ^ 25)) (frac 1 1)
within32_0 R h = rounds_bound R 149 1 1 1 (2 ^ 25) tt h

below_half : abs_f (frac 1 3) ≤F frac 1 2
unfolding abs_f
below_half = record { le = lit≤ tt }

-- the f32 nearest to 1 / 3
third : Within (value (round binary32 false 1 3)) (frac 1 3) (frac 1 (2 ^ 26))
third = (rounds_bound (rounds_self binary32 false 1 3 (zero-lt-suc 2)) 148 1 2 1 (2 ^ 26) tt below_half).near

third_is : round binary32 false 1 3 ≡ fin false 11184811 (negsuc 24)
unfolding round
third_is = refl

-- the bound is reached: 1 + 2 ^ -24 lies halfway between two f32, and goes to the even one, 1
halfway : round binary32 false 16777217 16777216 ≡ fin false 1 (pos 0)
unfolding round
halfway = refl

met : half_ulp binary32 150 ≤F distance (value (round binary32 false 16777217 16777216)) (frac 16777217 16777216)
unfolding distance
met = subst (λ (z : Float). half_ulp binary32 150 ≤F distance (value z) (frac 16777217 16777216)) (sym halfway)
    (record { le = lit≤ tt })

-- an f64 quotient with a divisor below 0: 1 / -3
abbrev one : Float
one = fin false 1 (pos 0)

abbrev three : Float
three = fin true 3 (pos 0)

divisor : frac 0 1 <F abs_f (value three)
unfolding abs_f
divisor = record { lt = lit< tt }

quotient : abs_f (value one /F value three) ≤F frac 1 2
unfolding abs_f ◌/F◌
quotient = record { le = lit≤ tt }

one_third : Close (div binary64 one three) (value one /F value three) (frac 1 (2 ^ 55)) (frac 1 2)
one_third = rounds_bound (div_rounds binary64 one three tt tt divisor) 1073 1 2 1 (2 ^ 55) tt quotient
