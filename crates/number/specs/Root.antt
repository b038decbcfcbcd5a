-- The square root, rounded to the nearest f64 by whole numbers alone: the definition that the code of src/root.rt
-- equals. No tie can occur, so none is broken here (proofs/RootLaws.antt). Specification 4. Assumes nothing.
use Rattle.std.specs.Prelude.{ℕ, zero, suc, ◌+◌, ◌-◌, ◌*◌, ◌/◌, ◌^◌, ◌<◌, Bool, true, false, cond, from_bits, nat_le, nat_lt, to_bits, Float}
use Rattle.exact.specs.Double.{◌⊕◌, ◌⊖◌, ◌⊗◌, nought, half, one}
use Rattle.std.specs.Float.{nan, inf, fin, binary64}
use Rattle.std.specs.Float.Ieee.{up, down, size, round, lt}
use Rattle.std.specs.Float.Ieee.Positive.{num, den}

-- The whole part s of the square root of a, for an a of at most k pairs of binary digits: s * s ≤ a < (s + 1) * (s +
-- 1). It is twice the root of a without its last pair, or one more where the square of that is still at most a.
unfoldable pub whole_root : ℕ → ℕ → ℕ
whole_root zero a = 0
whole_root (suc k) a = let s = 2 * whole_root k (a / 4) in cond (nat_le ((s + 1) * (s + 1)) a) (s + 1) s

-- The whole number nearest to the square root of a, for an a of at most 106 digits: (s + 1/2)² is s * s + s + 1/4,
-- so the root is above s + 1/2 exactly where the remainder a - s * s is above s.
unfoldable pub nearest_root : ℕ → ℕ
unfolding whole_root
nearest_root a = let s = whole_root 53 a in cond (nat_lt s (a - s * s)) (s + 1) s

-- The root of n units of 2 ^ -1074, for an n above 0: it is the root of n in units of 2 ^ -537. n's leading digit
-- stands for 2 ^ (size n - 1), so that of the root stands for 2 ^ h. Scaled by 4 ^ (52 - h), n has 105 or 106 digits,
-- and its root has 53: the significand, in units of 2 ^ (h - 52).
unfoldable pub root_of : ℕ → Float
unfolding nearest_root
root_of n = let h = (size n - 1) / 2 in round binary64 false (nearest_root (n * 2 ^ 104 / 4 ^ h) * 2 ^ h) (2 ^ 589)

-- The zeros and +infinity are their own roots, a negative number has none. A finite f64 is a whole number of units of 2
-- ^ -1074.
unfoldable pub root : Float → Float
unfolding root_of
root nan = nan
root (inf true) = nan
root (inf false) = inf false
root (fin s zero e) = fin s zero e
root (fin true (suc m) e) = nan
root (fin false (suc m) e) = root_of (suc m * up e * 2 ^ 1074 / down e)

-- ---- the words of the theorems about it
-- finite, with the sign clear
abbrev pub unsigned : Float → Bool
unsigned nan = false
unsigned (inf s) = false
unsigned (fin true m e) = false
unsigned (fin false m e) = true

-- ((y + r) / 2)² < x, and x < ((y + r) / 2)², for such numbers, each the fraction num / den
abbrev pub MidpointUnder : Float → Float → Float → Type 0
MidpointUnder y r x = (num y * den r + num r * den y) * (num y * den r + num r * den y) * den x < num x *
    (2 * (den y * den r)) * (2 * (den y * den r))

abbrev pub MidpointOver : Float → Float → Float → Type 0
MidpointOver y r x = num x * (2 * (den y * den r)) * (2 * (den y * den r)) < (num y * den r + num r * den y) *
    (num y * den r + num r * den y) * den x

-- ---- The code's guess, operation by operation. Nothing rests on how close it is: an exact test settles each answer.
-- a polynomial in w = x y y near 1 / √w
abbrev pub toward_one : Float → Float
toward_one w =
    -- 2.733551153284358, 4.6441040278970105
    from_bits binary64 0x4005_de50_112a_652c ⊖ from_bits binary64 0x4012_9390_019c_287b ⊗ w
    -- 5.678322318750966, 4.130854046499399
    ⊕ w ⊗ w ⊗ (from_bits binary64 0x4016_b69a_203c_baa9 ⊖ from_bits binary64 0x4010_85fe_9a69_0e86 ⊗ w
    -- 1.6354015370325001, 0.27231693469857376
    ⊕ w ⊗ w ⊗ (from_bits binary64 0x3ffa_2a9a_cd56_1fa0 ⊖ from_bits binary64 0x3fd1_6da4_022b_5992 ⊗ w))

-- the leading digits of g, by 2 ^ 27 + 1
abbrev pub leading : Float → Float
leading g = g ⊗ from_bits binary64 0x41a0_0000_0200_0000 ⊖ (g ⊗ from_bits binary64 0x41a0_0000_0200_0000 ⊖ g)

-- from the leading digits on, with half of 1 / √x
abbrev pub stepped : Float → Float → Float → Float
stepped d top h = top ⊕ (d ⊕ d ⊗ d ⊗ h)

-- from y, near 1 / √x, on
abbrev pub guessed : Float → Float → Float
guessed x y =
    let p = toward_one (x ⊗ y ⊗ y) in
    let top = leading (x ⊗ y ⊗ p) in
    let h = half ⊗ y ⊗ p in
    stepped ((x ⊖ top ⊗ top) ⊗ h) top h

-- what it starts from: x, or 1 where x is not above 0
abbrev pub seed : Float → Float
seed x = cond (lt nought x) x one

unfoldable pub guess : Float → Float
guess x = guessed (seed x) (from_bits binary64 (0x5fe6_b000_0000_0000 - to_bits binary64 (seed x) / 2))
