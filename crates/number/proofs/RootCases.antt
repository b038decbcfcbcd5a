-- Which case of the definition the code's tests pick: each test on an f64, taken apart by the float's shape. Assumes
-- nothing.
use Rattle.std.proofs.Common.{◌≡◌, ℕ, zero, suc, ◌*◌, ◌<◌, ◌≤◌, Bool, true, false, not, ◌&&◌, ◌||◌, T, eqb, ltb, ℤ, pos, sym, refl, ap, ◌∙◌, subst, true≢false, zero-le, le_refl, lt_of_le_of_lt, le_of_lt, lt_irrefl, zero-lt-suc, mul-pos, zero-mul, not-le_of_lt, eqb→eq, ltb→lt, lt→ltb}
use mathlib.Core.Bool.{beq}
use lib.Ieee.{Float, nan, inf, fin, binary64, up, down, fits, is_nan, to_bits, of_bits, lt, eq}
use lib.Ieee.Bits.{is_true}
use lib.Ieee.Fits.{up_pos, and_l}
use lib.Ieee.Positive.{positive, first_pos}
use Rattle.exact.proofs.FloatPatterns.{finite_bits}
use Rattle.exact.proofs.Nan.{zero_bits}
use Rattle.number.specs.Root.{root}

as_test : (b : Bool) → b ≡ true → T b
as_test b e = subst T (sym e) tt

-- ---- above 0
above : (m : ℕ) (e : ℤ) → T (ltb (0 * 1 * down e) (m * up e * 1)) → 0 < m
above m e t = first_pos m (up e)
    (first_pos (m * up e) 1 (lt_of_le_of_lt zero-le (ltb→lt (0 * 1 * down e) (m * up e * 1) t)))

module _ (x : Float) (h : lt (of_bits binary64 0) x ≡ true) where
  test : T (lt (fin false 0 (pos 0)) x)
  test = as_test (lt (fin false 0 (pos 0)) x) (ap (λ (z : Float). lt z x) (sym (zero_bits binary64)) ∙ h)

no_nan_above : (x : Float) → T (lt (fin false 0 (pos 0)) x) → T (not (is_nan x))
unfolding lt is_nan
no_nan_above nan t = absurd t
no_nan_above (inf s) t = tt
no_nan_above (fin s m e) t = tt

finite_above : (x : Float) → T (lt (fin false 0 (pos 0)) x) → to_bits binary64 x < 9218868437227405312 → T (positive x)
unfolding lt to_bits
finite_above nan t l = absurd t
finite_above (inf true) t l = absurd t
finite_above (inf false) t l = absurd (lt_irrefl 9218868437227405312 l)
finite_above (fin true m e) t l = absurd t
finite_above (fin false m e) t l = lt→ltb 0 m (above m e t)

infinity_above : (x : Float) → T (fits binary64 x) → T (lt (fin false 0 (pos 0)) x)
    → 9218868437227405312 ≤ to_bits binary64 x → x ≡ root x
unfolding lt root
infinity_above nan f t l = absurd t
infinity_above (inf true) f t l = absurd t
infinity_above (inf false) f t l = refl
infinity_above (fin true m e) f t l = absurd t
infinity_above (fin false m e) f t l = absurd (not-le_of_lt (finite_bits binary64 false m e f) l)

bits_above : (x : Float) → T (fits binary64 x) → T (lt (fin false 0 (pos 0)) x)
    → to_bits binary64 x ≤ 9218868437227405312
unfolding lt to_bits
bits_above nan f t = absurd t
bits_above (inf true) f t = absurd t
bits_above (inf false) f t = le_refl 9218868437227405312
bits_above (fin true m e) f t = absurd t
bits_above (fin false m e) f t = le_of_lt (finite_bits binary64 false m e f)

pub above_bits : (x : Float) → T (fits binary64 x) → lt (of_bits binary64 0) x ≡ true
    → to_bits binary64 x ≤ 9218868437227405312
above_bits x f h = bits_above x f (test x h)

pub above_no_nan : (x : Float) → lt (of_bits binary64 0) x ≡ true → T (not (is_nan x))
above_no_nan x h = no_nan_above x (test x h)

pub above_positive : (x : Float) → lt (of_bits binary64 0) x ≡ true → to_bits binary64 x < 9218868437227405312
    → T (positive x)
above_positive x h l = finite_above x (test x h) l

pub above_infinity : (x : Float) → T (fits binary64 x) → lt (of_bits binary64 0) x ≡ true
    → 9218868437227405312 ≤ to_bits binary64 x → x ≡ root x
above_infinity x f h l = infinity_above x f (test x h) l

-- ---- equal to 0
no_digits : (m : ℕ) (s : Bool) (e : ℤ)
    → T (eqb (suc m * up e * 1) (0 * 1 * down e) && (beq s false || eqb (suc m * up e * 1) 0)) → ⊥
no_digits m s e t =
    lt_irrefl 0 (subst (λ (z : ℕ). 0 < z)
    (eqb→eq (suc m * up e * 1) (0 * 1 * down e)
    (and_l (eqb (suc m * up e * 1) (0 * 1 * down e)) (beq s false || eqb (suc m * up e * 1) 0) t)
    ∙ zero-mul (down e))
    (mul-pos (mul-pos (zero-lt-suc m) (up_pos e)) (zero-lt-suc 0)))

itself : (x : Float) → T (eq x (fin false 0 (pos 0))) → x ≡ root x
unfolding eq root
itself nan t = absurd t
itself (inf s) t = absurd t
itself (fin s zero e) t = refl
itself (fin s (suc m) e) t = absurd (no_digits m s e t)

pub zero_root : (x : Float) → eq x (of_bits binary64 0) ≡ true → x ≡ root x
zero_root x h = itself x (as_test (eq x (fin false 0 (pos 0))) (ap (eq x) (sym (zero_bits binary64)) ∙ h))

-- ---- neither: negative, or a NaN
level_zero : (s : Bool) (a b : ℕ) → a ≡ 0 → b ≡ 0 → (eqb a b && (beq s false || eqb a 0)) ≡ true
level_zero true a b p q = ap (λ (z : ℕ). eqb z b && (false || eqb z 0)) p
    ∙ ap (λ (z : ℕ). eqb 0 z && (false || eqb 0 0)) q
level_zero false a b p q = ap (λ (z : ℕ). eqb z b && (true || eqb z 0)) p
    ∙ ap (λ (z : ℕ). eqb 0 z && (true || eqb 0 0)) q

zero_below : (m : ℕ) (e : ℤ) → ltb (0 * 1 * down e) (suc m * up e * 1) ≡ true
zero_below m e =
    is_true (ltb (0 * 1 * down e) (suc m * up e * 1))
    (lt→ltb (0 * 1 * down e) (suc m * up e * 1)
    (subst (λ (z : ℕ). z < suc m * up e * 1) (sym (zero-mul (down e)))
    (mul-pos (mul-pos (zero-lt-suc m) (up_pos e)) (zero-lt-suc 0))))

none : (x : Float) → lt (fin false 0 (pos 0)) x ≡ false → eq x (fin false 0 (pos 0)) ≡ false → nan ≡ root x
unfolding lt eq root
none nan h k = refl
none (inf true) h k = refl
none (inf false) h k = absurd (true≢false h)
none (fin s zero e) h k =
    absurd (true≢false (sym (level_zero s (0 * up e * 1) (0 * 1 * down e) (ap (λ (z : ℕ). z * 1) (zero-mul (up e)))
    (zero-mul (down e))) ∙ k))
none (fin true (suc m) e) h k = refl
none (fin false (suc m) e) h k = absurd (true≢false (sym (zero_below m e) ∙ h))

-- the NaN of the language
nan_pattern : of_bits binary64 0x7ff8_0000_0000_0000 ≡ nan
unfolding of_bits
nan_pattern = refl

pub no_root : (x : Float) → lt (of_bits binary64 0) x ≡ false → eq x (of_bits binary64 0) ≡ false
    → of_bits binary64 0x7ff8_0000_0000_0000 ≡ root x
no_root x h k = nan_pattern
    ∙ none x (ap (λ (z : Float). lt z x) (sym (zero_bits binary64)) ∙ h) (ap (eq x) (sym (zero_bits binary64)) ∙ k)
