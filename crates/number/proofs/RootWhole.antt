-- The square root in whole numbers: `whole_root` is the one s with s * s ≤ a < (s + 1) * (s + 1), by induction on the
-- pairs of digits; and `nearest_root` is the one q with q * q - q < a ≤ q * q + q, which says that the root lies between
-- q - 1/2 and q + 1/2. Assumes nothing.
use Rattle.std.proofs.Common.{◌≡◌, ℕ, zero, suc, ◌+◌, ◌-◌, ◌*◌, ◌/◌, ◌^◌, ◌<◌, ◌≤◌, Bool, true, false, cond, not, T, ltb, leb, ap, ◌∙◌, subst, le_of_suc-le-suc, mul-le-mul_right, zero-lt-suc, div-lt_iff_lt-mul, mul-le-mul, le_antisymm, mul-le-mul_left, pow-suc, lt_of_not-le, arith, ltb→lt, leb→le, nltb→le}
use lib.Dec.{nleb→lt}
use Rattle.number.specs.Root.{whole_root, nearest_root}

-- s is the whole part of a's square root
abbrev pub Whole : ℕ → ℕ → Type 0
Whole a s = (s * s ≤ a) × (a < (s + 1) * (s + 1))

-- q is the whole number nearest to a's square root
abbrev pub Nearest : ℕ → ℕ → Type 0
Nearest a q = (q * q < a + q) × (a ≤ q * q + q)

-- ---- the whole part
none : (a : ℕ) → a < 1 → Whole a 0
none a h = omega arith

-- t is the root of a without its last pair of digits
up : (a t : ℕ) → Whole (a / 4) t → (2 * t + 1) * (2 * t + 1) ≤ a → Whole a (2 * t + 1)
up a t w h = (h, omega arith)

stay : (a t : ℕ) → Whole (a / 4) t → a < (2 * t + 1) * (2 * t + 1) → Whole a (2 * t)
stay a t w h = (omega arith, h)

pub whole_is : (k a : ℕ) → a < 4 ^ k → Whole a (whole_root k a)
unfolding whole_root
whole_is zero a h = none a h
whole_is (suc k) a h =
    next a (whole_root k (a / 4))
    (whole_is k (a / 4) ((div-lt_iff_lt-mul (zero-lt-suc 3)).1 (subst (λ (z : ℕ). a < z) (pow-suc 4 k) h)))
  where
    next : (a t : ℕ) → Whole (a / 4) t → Whole a (cond (leb ((2 * t + 1) * (2 * t + 1)) a) (2 * t + 1) (2 * t))
    next a t w = go (leb ((2 * t + 1) * (2 * t + 1)) a) (leb→le ((2 * t + 1) * (2 * t + 1)) a)
        (nleb→lt ((2 * t + 1) * (2 * t + 1)) a)
      where
        go : (b : Bool) → (T b → (2 * t + 1) * (2 * t + 1) ≤ a) → (T (not b) → a < (2 * t + 1) * (2 * t + 1))
            → Whole a (cond b (2 * t + 1) (2 * t))
        go true y n = up a t w (y tt)
        go false y n = stay a t w (n tt)

-- ---- squares keep the order, so the whole part is one number
square_mono : (a b : ℕ) → a ≤ b → a * a ≤ b * b
square_mono a b h = mul-le-mul h h

below : (a s t : ℕ) → s * s ≤ a → a < (t + 1) * (t + 1) → s ≤ t
below a s t h k = le_of_suc-le-suc
    (lt_of_not-le (λ (g : suc t ≤ s). clash a (s * s) ((t + 1) * (t + 1)) h k
    (square_mono (t + 1) s (subst (λ (z : ℕ). z ≤ s) (one t) g))))
  where
    one : (t : ℕ) → suc t ≡ t + 1
    one t = omega arith

    clash : (a x y : ℕ) → x ≤ a → a < y → y ≤ x → ⊥
    clash a x y p q r = omega arith

pub whole_unique : (a s t : ℕ) → Whole a s → Whole a t → s ≡ t
whole_unique a s t v w = le_antisymm (below a s t v.0 w.1) (below a t s w.0 v.1)

-- ---- the nearest whole number
round_up : (a s : ℕ) → Whole a s → s < a - s * s → Nearest a (s + 1)
round_up a s w h = omega arith

round_down : (a s : ℕ) → 0 < a → Whole a s → a - s * s ≤ s → Nearest a s
round_down a zero p w h = absurd (no_zero a p w.1)
  where
    no_zero : (a : ℕ) → 0 < a → a < 1 → ⊥
    no_zero a p h = omega arith
round_down a (suc s) p w h = (more (suc s * suc s) a (suc s) w.0 (zero-lt-suc s), omega arith)
  where
    more : (x a s : ℕ) → x ≤ a → 0 < s → x < a + s
    more x a s h k = omega arith

pub nearest_is : (a : ℕ) → 0 < a → a < 2 ^ 106 → Nearest a (nearest_root a)
unfolding nearest_root
nearest_is a p h = go (ltb s (a - s * s)) (ltb→lt s (a - s * s)) (nltb→le s (a - s * s))
  where
    s : ℕ
    s = whole_root 53 a

    w : Whole a s
    w = whole_is 53 a h

    go : (b : Bool) → (T b → s < a - s * s) → (T (not b) → a - s * s ≤ s) → Nearest a (cond b (s + 1) s)
    go true y n = round_up a s w (y tt)
    go false y n = round_down a s p w (n tt)

nearest_below : (a p q : ℕ) → Nearest a p → Nearest a q → p ≤ q
nearest_below a p q v w =
    le_of_suc-le-suc (lt_of_not-le
    (λ (g : suc q ≤ p). clash a p q g v.0 w.1 (mul-le-mul_right p g) (mul-le-mul_left q g)))
  where
    -- p * p - p is at least (q + 1) * q, where q is below p
    clash : (a p q : ℕ) → suc q ≤ p → p * p < a + p → a ≤ q * q + q → suc q * p ≤ p * p → q * suc q ≤ q * p → ⊥
    clash a p q g x y m k = omega arith

pub nearest_unique : (a p q : ℕ) → Nearest a p → Nearest a q → p ≡ q
nearest_unique a p q v w = le_antisymm (nearest_below a p q v w) (nearest_below a q p w v)

-- the way by the whole part and its remainder, and by any number that passes the test
pub nearest_by : (a q : ℕ) → 0 < a → a < 2 ^ 106 → Nearest a q → q ≡ nearest_root a
nearest_by a q p h w = nearest_unique a q (nearest_root a) w (nearest_is a p h)

pub nearest_from : (a s r : ℕ) → a < 2 ^ 106 → a ≡ s * s + r → r ≤ 2 * s → nearest_root a ≡ cond (ltb s r) (s + 1) s
unfolding nearest_root
nearest_from a s r h e k =
    ap (λ (z : ℕ). cond (ltb z (a - z * z)) (z + 1) z)
    (whole_unique a (whole_root 53 a) s (whole_is 53 a h) (omega arith))
    ∙ ap (λ (z : ℕ). cond (ltb s z) (s + 1) s) (rest a s r e)
  where
    rest : (a s r : ℕ) → a ≡ s * s + r → a - s * s ≡ r
    rest a s r e = omega arith
