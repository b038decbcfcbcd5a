-- A number in bytes by its parts: j bytes and k more are j + k, and only the lowest k bytes of a number are put in k.
-- From these, four bytes as straight-line code has them and eight as twice four. Assumes nothing.
use mathlib.Core.Path.{◌≡◌, refl, sym, ap, ◌∙◌}
use mathlib.Core.List.{List}
use Prim.Native.Nat.{ℕ, zero, suc, ◌+◌, ◌*◌, ◌/◌, ◌%◌, ◌^◌, ◌<◌}
use native.Mathlib.Nat.{
  add-zero,
  zero-add,
  suc-add,
  div-one,
  mul_comm,
  zero-lt-suc,
  pow-succ',
  div-div-eq-div-mul,
  mod-lt,
}
use native.Mathlib.Omega.{arith}
use lib.ListN.{get_or, set}
use Rattle.endian.specs.Bytes.{number_at, store_number}
use Rattle.endian.proofs.BytesLaws.{lowest}

-- ---- two parts side by side

pub number_join : (j k : ℕ) (s : List ℕ) (at : ℕ)
    → number_at (j + k) s at ≡ number_at j s at + 256 ^ j * number_at k s (at + j)
unfolding number_at
number_join zero k s at =
    ap (λ (i : ℕ). number_at i s at) (zero-add k) ∙ ap (λ (i : ℕ). number_at k s i) (sym (add-zero at))
    ∙ none (number_at k s (at + 0))
  where
    none : (n : ℕ) → n ≡ 0 + 1 * n
    none n = omega arith
number_join (suc j) k s at =
    ap (λ (i : ℕ). number_at i s at) (suc-add j k)
    ∙ ap (λ (n : ℕ). get_or s at 0 + 256 * n) (number_join j k s (at + 1)
    ∙ ap (λ (i : ℕ). number_at j s (at + 1) + 256 ^ j * number_at k s i) (next at j))
    ∙ grown (get_or s at 0) (number_at j s (at + 1)) (256 ^ j) (number_at k s (at + suc j))
    ∙ ap (λ (p : ℕ). get_or s at 0 + 256 * number_at j s (at + 1) + p * number_at k s (at + suc j)) (sym (pow-succ' 256 j))
  where
    next : (at j : ℕ) → at + 1 + j ≡ at + suc j
    next at j = omega arith

    grown : (b n p m : ℕ) → b + 256 * (n + p * m) ≡ b + 256 * n + 256 * p * m
    grown b n p m = omega arith

-- j bytes and k more are j + k
pub store_join : (j k : ℕ) (s : List ℕ) (at n : ℕ)
    → store_number (j + k) s at n ≡ store_number k (store_number j s at n) (at + j) (n / 256 ^ j)
unfolding store_number
store_join zero k s at n =
    ap (λ (i : ℕ). store_number i s at n) (zero-add k)
    ∙ ap (λ (i : ℕ). store_number k s i n) (sym (add-zero at))
    ∙ ap (store_number k s (at + 0)) (sym (div-one n))
store_join (suc j) k s at n =
    ap (λ (i : ℕ). store_number i s at n) (suc-add j k)
    ∙ store_join j k (set s at (n % 256)) (at + 1) (n / 256)
    ∙ ap (λ (i : ℕ). store_number k (store_number j (set s at (n % 256)) (at + 1) (n / 256)) i (n / 256 / 256 ^ j))
    (next at j)
    ∙ ap (store_number k (store_number (suc j) s at n) (at + suc j)) (div-div-eq-div-mul n 256 (256 ^ j)
    ∙ ap (λ (x : ℕ). n / x) (sym (pow-succ' 256 j)))
  where
    next : (at j : ℕ) → at + 1 + j ≡ at + suc j
    next at j = omega arith

-- only the lowest k bytes of n count
pub store_low : (k : ℕ) (s : List ℕ) (at n : ℕ) → store_number k s at (n % 256 ^ k) ≡ store_number k s at n
unfolding store_number
store_low zero s at n = refl
store_low (suc k) s at n =
    ap (λ (b : ℕ). store_number k (set s at b) (at + 1) (n % 256 ^ suc k / 256)) (ap (λ (x : ℕ). x % 256) (lowest k n)
    ∙ first (n % 256) (n / 256 % 256 ^ k) (mod-lt n (zero-lt-suc 255)))
    ∙ ap (λ (m : ℕ). store_number k (set s at (n % 256)) (at + 1) m) (ap (λ (x : ℕ). x / 256) (lowest k n)
    ∙ rest (n % 256) (n / 256 % 256 ^ k) (mod-lt n (zero-lt-suc 255)))
    ∙ store_low k (set s at (n % 256)) (at + 1) (n / 256)
  where
    first : (b q : ℕ) → b < 256 → (b + 256 * q) % 256 ≡ b
    first b q h = omega arith

    rest : (b q : ℕ) → b < 256 → (b + 256 * q) / 256 ≡ q
    rest b q h = omega arith

-- ---- four bytes, as straight-line code reads and stores them

pub number_four : (s : List ℕ) (at : ℕ)
    → get_or s at 0 + get_or s (at + 1) 0 * 256 + get_or s (at + 2) 0 * 65536 + get_or s (at + 3) 0 * 16777216
    ≡ number_at 4 s at
unfolding number_at
number_four s at =
    nested (get_or s at 0) (get_or s (at + 1) 0) (get_or s (at + 2) 0) (get_or s (at + 3) 0)
    ∙ λ i.
    get_or s at 0 + 256 * (get_or s (at + 1) 0 + 256 * (get_or s (two at i) 0 + 256 * last (get_or s (three at i) 0) i))
  where
    nested : (a b c d : ℕ) → a + b * 256 + c * 65536 + d * 16777216 ≡ a + 256 * (b + 256 * (c + 256 * d))
    nested a b c d = omega arith

    two : (at : ℕ) → at + 2 ≡ at + 1 + 1
    two at = omega arith

    three : (at : ℕ) → at + 3 ≡ at + 1 + 1 + 1
    three at = omega arith

    last : (n : ℕ) → n ≡ n + 256 * 0
    last n = omega arith

pub store_four : (s : List ℕ) (at n : ℕ)
    → set (set (set (set s at (n % 256)) (at + 1) (n / 256 % 256)) (at + 2) (n / 65536 % 256)) (at + 3)
    (n / 16777216 % 256)
    ≡ store_number 4 s at n
unfolding store_number
store_four s at n =
    λ i.
    set (set (set (set s at (n % 256)) (at + 1) (n / 256 % 256)) (two at i) (third n i % 256)) (three at i)
    (fourth n i % 256)
  where
    two : (at : ℕ) → at + 2 ≡ at + 1 + 1
    two at = omega arith

    three : (at : ℕ) → at + 3 ≡ at + 1 + 1 + 1
    three at = omega arith

    third : (n : ℕ) → n / 65536 ≡ n / 256 / 256
    third n = omega arith

    fourth : (n : ℕ) → n / 16777216 ≡ n / 256 / 256 / 256
    fourth n = omega arith

-- ---- eight bytes by halves

pub number_eight : (s : List ℕ) (at : ℕ) → number_at 4 s at + number_at 4 s (at + 4) * 4294967296 ≡ number_at 8 s at
number_eight s at = ap (λ (n : ℕ). number_at 4 s at + n) (mul_comm (number_at 4 s (at + 4)) 4294967296)
    ∙ sym (number_join 4 4 s at)

pub store_eight : (s : List ℕ) (at n : ℕ)
    → store_number 4 (store_number 4 s at (n % 4294967296)) (at + 4) (n / 4294967296) ≡ store_number 8 s at n
store_eight s at n = ap (λ (t : List ℕ). store_number 4 t (at + 4) (n / 4294967296)) (store_low 4 s at n)
    ∙ sym (store_join 4 4 s at n)
