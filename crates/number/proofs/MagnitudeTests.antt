-- What the code's tests say: up to zero the magnitude of x is 0 - x, which is exact, and above zero it is x; and the
-- test of a magnitude against a limit is one comparison of patterns. Assumes nothing.
use Rattle.std.proofs.Common.{◌≡◌, ℕ, zero, suc, ◌+◌, ◌*◌, ◌%◌, ◌<◌, ◌≤◌, Bool, true, false, ◌&&◌, ◌||◌, T, eqb, ltb, leb, ℤ, pos, sym, refl, ap, ◌∙◌, subst, true≢false, mod-lt, zero-lt-suc, mul-pos, zero-mul, arith, le-ltb, lt-ltb, ne_eqb}
use mathlib.Core.Bool.{false≢true}
use lib.Ieee.{Float, nan, inf, fin, Format, top, up, down, round, sub, le, fits, of_bits}
use lib.Ieee.Fits.{up_pos, down_pos}
use Rattle.exact.proofs.Formats.{infinite, top_pos}
use Rattle.exact.proofs.Held.{round_held, round_zero}
use Rattle.exact.proofs.Nan.{zero_bits}
use Rattle.exact.proofs.PatternOrder.{pattern_order}
use Rattle.exact.proofs.Value.{zero_exp}
use Rattle.number.specs.Magnitude.{abs, within}
use Rattle.number.proofs.MagnitudeLaws.{abs_fits, abs_bits}

abbrev +0 : Float
+0 = fin false 0 (pos 0)

-- ---- the test x ≤ 0, of a magnitude a beside b, which is 0

minus_below : (a b : ℕ) → b ≡ 0 → (ltb 0 (a + b) || (eqb a b && (false || eqb a 0))) ≡ true
minus_below a b z = subst (λ (x : ℕ). (ltb 0 (a + x) || (eqb a x && (false || eqb a 0))) ≡ true) (sym z) (go a)
  where
    go : (a : ℕ) → (ltb 0 (a + 0) || (eqb a 0 && (false || eqb a 0))) ≡ true
    go zero = refl
    go (suc a) = ap (λ (t : Bool). t || (eqb (suc a) 0 && (false || eqb (suc a) 0)))
        (lt-ltb 0 (suc a + 0) (omega arith))

plus_below : (a b : ℕ) → b ≡ 0 → 0 < a → (ltb a b || (eqb a b && true)) ≡ true → ⊥
plus_below a b z p h =
    false≢true
    (sym (ap (λ (t : Bool). t || (eqb a b && true)) (le-ltb a b (omega arith))
    ∙ ap (λ (t : Bool). t && true) (ne_eqb a b (λ q. positive a b z p q)))
    ∙ h)
  where
    positive : (a b : ℕ) → b ≡ 0 → 0 < a → a ≡ b → ⊥
    positive a b z p q = omega arith

-- ---- the two arms of the code

unsigned : (f : Format) (m : ℕ) (e : ℤ) → T (fits f (fin true m e)) → T (fits f (fin false m e))
unfolding abs
unsigned f m e t = abs_fits f (fin true m e) t

tidy : (a b : ℕ) → 0 * a + b * 1 ≡ b
tidy a b = omega arith

once : (a : ℕ) → 1 * a ≡ a
once a = omega arith

pub abs_up_to_zero : (f : Format) (x : Float) → T (fits f x) → le x +0 ≡ true → sub f +0 x ≡ abs x
unfolding le sub abs
abs_up_to_zero f nan t h = absurd (false≢true h)
abs_up_to_zero f (inf true) t h = refl
abs_up_to_zero f (inf false) t h = absurd (false≢true h)
abs_up_to_zero f (fin true m e) t h =
    ap (λ (n : ℕ). round f false n (1 * down e)) (tidy (down e) (m * up e))
    ∙ ap (λ (d : ℕ). round f false (m * up e) d) (once (down e))
    ∙ round_held f (fin false m e) false (m * up e) (down e) (down_pos e) (unsigned f m e t) (refl, refl)
abs_up_to_zero f (fin false zero e) t h =
    subst (λ (z : ℤ). sub f +0 (fin false 0 z) ≡ fin false 0 z) (sym (zero_exp f false e t))
    (round_zero f false 1 (zero-lt-suc 0))
abs_up_to_zero f (fin false (suc m) e) t h =
    absurd (plus_below (suc m * up e * 1) (0 * down e) (zero-mul (down e))
    (mul-pos (mul-pos (zero-lt-suc m) (up_pos e)) (zero-lt-suc 0)) h)

pub abs_above_zero : (x : Float) → le x +0 ≡ false → x ≡ abs x
unfolding le abs
abs_above_zero nan h = refl
abs_above_zero (inf true) h = absurd (true≢false h)
abs_above_zero (inf false) h = refl
abs_above_zero (fin true m e) h =
    absurd (true≢false (sym (minus_below (m * up e * 1) (0 * down e) (zero-mul (down e))) ∙ h))
abs_above_zero (fin false m e) h = refl

-- with zero as a literal has it
pub abs_of_difference : (f : Format) (x : Float) → T (fits f x) → le x (of_bits f 0) ≡ true
    → sub f (of_bits f 0) x ≡ abs x
abs_of_difference f x t h =
    ap (λ (z : Float). sub f z x) (zero_bits f)
    ∙ abs_up_to_zero f x t (ap (λ (z : Float). le x z) (sym (zero_bits f)) ∙ h)

pub abs_otherwise : (f : Format) (x : Float) → le x (of_bits f 0) ≡ false → x ≡ abs x
abs_otherwise f x h = abs_above_zero x (ap (λ (z : Float). le x z) (sym (zero_bits f)) ∙ h)

-- ---- the limit, by patterns
pub within_bits : (f : Format) (n limit : ℕ) → limit ≤ infinite f
    → leb (n % top f) limit ≡ within (of_bits f limit) (of_bits f n)
unfolding within
within_bits f n limit h =
    sym (ap (λ (x : Float). le x (of_bits f limit)) (abs_bits f n)
    ∙ pattern_order f (n % top f) limit (mod-lt n (top_pos f)) h)
