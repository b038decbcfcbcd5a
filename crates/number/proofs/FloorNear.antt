-- Signs without cases: the value ±a / c is k less than the fraction `shift s a c k` / c of naturals. So its floor is a
-- quotient of naturals less k, and a whole number n - k is above it where n * c is above the shifted numerator. Assumes
-- nothing.
use Rattle.std.proofs.Common.{◌≡◌, ℕ, zero, suc, ◌+◌, ◌-◌, ◌*◌, ◌/◌, ◌<◌, ◌≤◌, Bool, true, false, cond, not, T, ltb, ◌⊎◌, ℤ, pos, negsuc, neg_ℤ, nat_abs, sym, refl, ap, ◌∙◌, inl, inr, le_of_suc-le-suc, div-lt_iff_lt-mul, le_antisymm, le-div_iff_mul-le, arith, ltb→lt, lt→ltb, nltb→le}
use lib.IntN.{sub_ℕ}
use lib.Ieee.{below}
use Rattle.exact.proofs.Operands.{same_test}
use Rattle.exact.proofs.Integer.{negative}
use Rattle.number.specs.Floor.{ceil_div}

-- ±a / c + k, over c
abbrev pub shift : Bool → ℕ → ℕ → ℕ → ℕ
shift s a c k = cond s (k * c - a) (k * c + a)

-- the floor of ±a / c
abbrev pub floor_of : Bool → ℕ → ℕ → ℤ
floor_of false a c = pos (a / c)
floor_of true a c = neg_ℤ (pos (ceil_div a c))

div_is : (a c q : ℕ) → 0 < c → q * c ≤ a → a < suc q * c → a / c ≡ q
div_is a c q C lo hi = le_antisymm (le_of_suc-le-suc ((div-lt_iff_lt-mul C).1 hi)) ((le-div_iff_mul-le C).1 lo)

-- n - k is j, or it is - (j + 1)
pub sub_split : (n k : ℕ) → ((j : ℕ) × (n ≡ k + j) × (sub_ℕ n k ≡ pos j))
    ⊎ ((j : ℕ) × (k ≡ n + suc j) × (sub_ℕ n k ≡ negsuc j))
sub_split n k = go (ltb n k) (ltb→lt n k) (nltb→le n k)
  where
    up_by : (n k : ℕ) → k ≤ n → n ≡ k + (n - k)
    up_by n k h = omega arith

    down_by : (n k : ℕ) → n < k → k ≡ n + suc (k - suc n)
    down_by n k h = omega arith

    go : (u : Bool) → (T u → n < k) → (T (not u) → k ≤ n)
        → ((j : ℕ) × (n ≡ k + j) × (cond u (negsuc (k - suc n)) (pos (n - k)) ≡ pos j))
        ⊎ ((j : ℕ) × (k ≡ n + suc j) × (cond u (negsuc (k - suc n)) (pos (n - k)) ≡ negsuc j))
    go true h g = inr (k - suc n, down_by n k (h tt), refl)
    go false h g = inl (n - k, up_by n k (g tt), refl)

-- ---- the floor is the shifted quotient, less k
floor_up : (s : Bool) (a c k j w : ℕ) → w ≡ k + j → 0 < c → a ≤ k * c → w * c ≤ shift s a c k
    → shift s a c k < suc w * c → floor_of s a c ≡ pos j
floor_up false a c k j w e C A lo hi =
    let p : w * c ≡ (k + j) * c = ap (λ (z : ℕ). z * c) e in
    ap pos (div_is a c j C (omega arith) (omega arith))
floor_up true a c k zero w e C A lo hi =
    let p : w * c ≡ (k + 0) * c = ap (λ (z : ℕ). z * c) e in
    ap (λ (q : ℕ). neg_ℤ (pos q)) (div_is (a + (c - 1)) c zero C (omega arith) (omega arith))
floor_up true a c k (suc j) w e C A lo hi =
    absurd (no_more (j * c) a c (k * c) (w * c) C lo (ap (λ (z : ℕ). z * c) e ∙ spread k j c))
  where
    spread : (k j c : ℕ) → (k + suc j) * c ≡ k * c + j * c + c
    spread k j c = omega arith

    no_more : (u a c v w : ℕ) → 0 < c → w ≤ v - a → w ≡ v + u + c → ⊥
    no_more u a c v w C h e = omega arith

floor_down : (s : Bool) (a c k j w : ℕ) → k ≡ w + suc j → 0 < c → a ≤ k * c → w * c ≤ shift s a c k
    → shift s a c k < suc w * c → floor_of s a c ≡ negsuc j
floor_down false a c k j w e C A lo hi =
    let p : k * c ≡ (w + suc j) * c = ap (λ (z : ℕ). z * c) e in
    absurd (too_low (w * c) (j * c) a c (omega arith))
  where
    too_low : (u v a c : ℕ) → u + v + c + a < u + c → ⊥
    too_low u v a c h = omega arith
floor_down true a c k j w e C A lo hi =
    let p : k * c ≡ (w + suc j) * c = ap (λ (z : ℕ). z * c) e in
    ap (λ (q : ℕ). neg_ℤ (pos q)) (div_is (a + (c - 1)) c (suc j) C (omega arith) (omega arith))

pub floor_shift : (s : Bool) (a c k w : ℕ) → 0 < c → a ≤ k * c → w * c ≤ shift s a c k → shift s a c k < suc w * c
    → floor_of s a c ≡ sub_ℕ w k
floor_shift s a c k w C A lo hi = elim (sub_split w k) [
  | inl (j, e, z) ↦ floor_up s a c k j w e C A lo hi ∙ sym z
  | inr (j, e, z) ↦ floor_down s a c k j w e C A lo hi ∙ sym z
]

-- ---- the value is below the whole number n - k where the shifted value is below n
below_split : (s : Bool) (a c k n : ℕ) (z : ℤ) → a ≤ k * c → 0 < c → ((j : ℕ) × (n ≡ k + j) × (z ≡ pos j))
    ⊎ ((j : ℕ) × (k ≡ n + suc j) × (z ≡ negsuc j))
    → below s a (negative z) (nat_abs z * c) ≡ ltb (shift s a c k) (n * c)
below_split s a c k n z A C (inl (j, e, i)) = ap (λ (z : ℤ). below s a (negative z) (nat_abs z * c)) i
    ∙ go s (ap (λ (z : ℕ). z * c) e)
  where
    go : (s : Bool) → n * c ≡ (k + j) * c → below s a false (j * c) ≡ ltb (shift s a c k) (n * c)
    go false p = same_test (ltb a (j * c)) (ltb (k * c + a) (n * c))
        (λ t. let h = ltb→lt a (j * c) t in lt→ltb (k * c + a) (n * c) (omega arith))
        (λ t. let h = ltb→lt (k * c + a) (n * c) t in lt→ltb a (j * c) (omega arith))
    go true p = same_test (ltb 0 (a + j * c)) (ltb (k * c - a) (n * c))
        (λ t. let h = ltb→lt 0 (a + j * c) t in lt→ltb (k * c - a) (n * c) (omega arith))
        (λ t. let h = ltb→lt (k * c - a) (n * c) t in lt→ltb 0 (a + j * c) (omega arith))
below_split s a c k n z A C (inr (j, e, i)) = ap (λ (z : ℤ). below s a (negative z) (nat_abs z * c)) i
    ∙ go s (ap (λ (z : ℕ). z * c) e)
  where
    go : (s : Bool) → k * c ≡ (n + suc j) * c → below s a true (suc j * c) ≡ ltb (shift s a c k) (n * c)
    go false p = same_test false (ltb (k * c + a) (n * c)) (λ t. absurd t)
        (λ t. let h = ltb→lt (k * c + a) (n * c) t in omega arith)
    go true p = same_test (ltb (suc j * c) a) (ltb (k * c - a) (n * c))
        (λ t. let h = ltb→lt (suc j * c) a t in lt→ltb (k * c - a) (n * c) (omega arith))
        (λ t. let h = ltb→lt (k * c - a) (n * c) t in lt→ltb (suc j * c) a (omega arith))

pub below_shift : (s : Bool) (a c k n : ℕ) → a ≤ k * c → 0 < c
    → below s a (negative (sub_ℕ n k)) (nat_abs (sub_ℕ n k) * c) ≡ ltb (shift s a c k) (n * c)
below_shift s a c k n A C = below_split s a c k n (sub_ℕ n k) A C (sub_split n k)
