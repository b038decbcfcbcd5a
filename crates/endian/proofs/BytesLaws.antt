-- The laws of numbers in bytes: what was put is read back, what lies beside it stays, and puts that do not overlap
-- may change places. By induction on the number of bytes, so once for every width. Assumes nothing.
use mathlib.Core.Path.{◌≡◌, refl, sym, ap, ◌∙◌, subst}
use mathlib.Core.Logic.{◌⊎◌, inl, inr}
use mathlib.Core.List.{List}
use Prim.Native.Nat.{ℕ, zero, suc, ◌+◌, ◌*◌, ◌/◌, ◌%◌, ◌^◌, ◌≤◌, ◌<◌}
use native.Mathlib.Nat.{add-zero, div-one, mod-one, mul-pos, zero-lt-suc, pow-suc, pow-succ', div-div-eq-div-mul}
use native.Mathlib.Omega.{arith}
use lib.Arith.{mod-mul}
use lib.ListN.{length, get_or, set, length-set}
use lib.Seq.{get_or-set_same, get_or-set_other, set_comm}
use Rattle.endian.specs.Bytes.{number_at, store_number}

-- ---- counting

byte_pos : (k : ℕ) → 0 < 256 ^ k
byte_pos zero = zero-lt-suc 0
byte_pos (suc k) = subst (λ (n : ℕ). 0 < n) (sym (pow-suc 256 k)) (mul-pos (byte_pos k) (zero-lt-suc 255))

-- a number of k + 1 bytes is its lowest byte and k more
pub lowest : (k n : ℕ) → n % 256 ^ suc k ≡ n % 256 + 256 * (n / 256 % 256 ^ k)
lowest k n =
    ap (λ (m : ℕ). n % m) (pow-suc 256 k) ∙ mod-mul n (byte_pos k) (zero-lt-suc 255)
    ∙ turned (n / 256 % 256 ^ k) (n % 256)
  where
    turned : (q r : ℕ) → q * 256 + r ≡ r + 256 * q
    turned q r = omega arith

-- ---- a put's length, and what lies outside it

pub store_length : (k : ℕ) (s : List ℕ) (at n : ℕ) → length (store_number k s at n) ≡ length s
unfolding store_number
store_length zero s at n = refl
store_length (suc k) s at n = store_length k (set s at (n % 256)) (at + 1) (n / 256) ∙ length-set s at (n % 256)

pub store_outside : (k : ℕ) (s : List ℕ) (at n j : ℕ) → (at ≤ j → j < at + k → ⊥)
    → get_or (store_number k s at n) j 0 ≡ get_or s j 0
unfolding store_number
store_outside zero s at n j out = refl
store_outside (suc k) s at n j out =
    store_outside k (set s at (n % 256)) (at + 1) (n / 256) j (λ a b. out (omega arith) (omega arith))
    ∙ get_or-set_other s at j (n % 256) 0 (λ e. out (omega arith) (omega arith))

-- byte i of what was put
pub store_inside : (k : ℕ) (s : List ℕ) (at n i : ℕ) → i < k → at + k ≤ length s
    → get_or (store_number k s at n) (at + i) 0 ≡ n / 256 ^ i % 256
unfolding store_number
store_inside zero s at n i h r = absurd (nothing i h)
  where
    nothing : (i : ℕ) → i < 0 → ⊥
    nothing i h = omega arith
store_inside (suc k) s at n zero h r =
    store_outside k (set s at (n % 256)) (at + 1) (n / 256) (at + 0) (λ a b. omega arith)
    ∙ ap (λ (j : ℕ). get_or (set s at (n % 256)) j 0) (add-zero at)
    ∙ get_or-set_same s at (n % 256) 0 (omega arith)
    ∙ ap (λ (x : ℕ). x % 256) (sym (div-one n))
store_inside (suc k) s at n (suc i) h r =
    ap (λ (j : ℕ). get_or (store_number k (set s at (n % 256)) (at + 1) (n / 256)) j 0) (next at i)
    ∙ store_inside k (set s at (n % 256)) (at + 1) (n / 256) i (omega arith)
    (subst (λ (l : ℕ). at + 1 + k ≤ l) (sym (length-set s at (n % 256))) (omega arith))
    ∙ ap (λ (x : ℕ). x % 256) (div-div-eq-div-mul n 256 (256 ^ i) ∙ ap (λ (x : ℕ). n / x) (sym (pow-succ' 256 i)))
  where
    next : (at i : ℕ) → at + suc i ≡ at + 1 + i
    next at i = omega arith

-- ---- reading

-- a number is its bytes
pub number_same : (k : ℕ) (s t : List ℕ) (at : ℕ) → ((j : ℕ) → at ≤ j → j < at + k → get_or s j 0 ≡ get_or t j 0)
    → number_at k s at ≡ number_at k t at
unfolding number_at
number_same zero s t at h = refl
number_same (suc k) s t at h =
    ap (λ (b : ℕ). b + 256 * number_at k s (at + 1)) (h at (omega arith) (omega arith))
    ∙ ap (λ (n : ℕ). get_or t at 0 + 256 * n) (number_same k s t (at + 1) (λ j a b. h j (omega arith) (omega arith)))

-- what was put is read back
pub number_put : (k : ℕ) (s : List ℕ) (at n : ℕ) → at + k ≤ length s
    → number_at k (store_number k s at n) at ≡ n % 256 ^ k
unfolding number_at store_number
number_put zero s at n r = sym (mod-one n)
number_put (suc k) s at n r =
    let t = set s at (n % 256) in
    ap (λ (b : ℕ). b + 256 * number_at k (store_number k t (at + 1) (n / 256)) (at + 1))
    (store_outside k t (at + 1) (n / 256) at (λ a b. omega arith) ∙ get_or-set_same s at (n % 256) 0 (omega arith))
    ∙ ap (λ (m : ℕ). n % 256 + 256 * m)
    (number_put k t (at + 1) (n / 256)
    (subst (λ (l : ℕ). at + 1 + k ≤ l) (sym (length-set s at (n % 256))) (omega arith)))
    ∙ sym (lowest k n)

-- what is read beside a put is as it was
pub number_beside : (k l : ℕ) (s : List ℕ) (at n j : ℕ) → (j + l ≤ at) ⊎ (at + k ≤ j)
    → number_at l (store_number k s at n) j ≡ number_at l s j
number_beside k l s at n j (inl h) =
    number_same l (store_number k s at n) s j (λ i a b. store_outside k s at n i (λ c d. omega arith))
number_beside k l s at n j (inr h) =
    number_same l (store_number k s at n) s j (λ i a b. store_outside k s at n i (λ c d. omega arith))

-- of bytes, k make a number below 256 ^ k
pub number_lt : (k : ℕ) (s : List ℕ) (at : ℕ) → ((j : ℕ) → get_or s j 0 < 256) → number_at k s at < 256 ^ k
unfolding number_at
number_lt zero s at h = zero-lt-suc 0
number_lt (suc k) s at h =
    subst (λ (n : ℕ). get_or s at 0 + 256 * number_at k s (at + 1) < n) (sym (pow-succ' 256 k))
    (below (get_or s at 0) (number_at k s (at + 1)) (256 ^ k) (h at) (number_lt k s (at + 1) h))
  where
    below : (b n p : ℕ) → b < 256 → n < p → b + 256 * n < 256 * p
    below b n p h g = omega arith

-- ---- puts that do not overlap change places

set_put : (k : ℕ) (s : List ℕ) (at n j a : ℕ) → (at ≤ j → j < at + k → ⊥)
    → set (store_number k s at n) j a ≡ store_number k (set s j a) at n
unfolding store_number
set_put zero s at n j a out = refl
set_put (suc k) s at n j a out =
    set_put k (set s at (n % 256)) (at + 1) (n / 256) j a (λ x y. out (omega arith) (omega arith))
    ∙ ap (λ (t : List ℕ). store_number k t (at + 1) (n / 256))
    (set_comm s at j (n % 256) a (λ e. out (omega arith) (omega arith)))

pub store_comm : (k l : ℕ) (s : List ℕ) (at n j m : ℕ) → (j + l ≤ at) ⊎ (at + k ≤ j)
    → store_number k (store_number l s j m) at n ≡ store_number l (store_number k s at n) j m
unfolding store_number
store_comm zero l s at n j m h = refl
store_comm (suc k) l s at n j m h =
    ap (λ (t : List ℕ). store_number k t (at + 1) (n / 256)) (set_put l s j m at (n % 256) (apart h))
    ∙ store_comm k l (set s at (n % 256)) (at + 1) (n / 256) j m (later h)
  where
    apart : (j + l ≤ at) ⊎ (at + suc k ≤ j) → j ≤ at → at < j + l → ⊥
    apart (inl h) a b = omega arith
    apart (inr h) a b = omega arith

    later : (j + l ≤ at) ⊎ (at + suc k ≤ j) → (j + l ≤ at + 1) ⊎ (at + 1 + k ≤ j)
    later (inl h) = inl (omega arith)
    later (inr h) = inr (omega arith)
