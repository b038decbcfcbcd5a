-- The floor of a fraction: the one whole number k with k ≤ x < k + 1. The definition divides naturals, so both halves
-- are the laws of that division; that k is the only one follows since k < j + 1 and j < k + 1 leave no other. Provides:
-- `plusℤ`, `minusℤ`, `at_whole` (a whole number at a scale), `whole_next`; `floor_le`, `floor_lt`, `floor_only`,
-- `floor_same`, `floor_whole`; `part_unit`, `part_lt`, `part_add` (x is its floor and its part), `split_only` (x = k +
-- t with 0 ≤ t < 1 is that split). Assumes nothing.
use mathlib.Core.Path.{◌≡◌, refl, sym, ap, subst}
use mathlib.Core.List.{[], ◌∷◌}
use mathlib.Core.Bool.{Bool, true, false, not, cond}
use Prim.Native.Nat.{ℕ, zero, suc, ◌+◌, ◌-◌, ◌*◌, ◌/◌, ◌≤◌, ◌<◌}
use native.Mathlib.Nat.{div-mul-le_self, lt-div-mul-add, zero-lt-suc}
use native.Mathlib.Omega.{arith}
use lib.Dec.{T, leb, leb→le, nleb→lt}
use lib.IntN.{ℤ, pos, negsuc, neg_ℤ, suc_ℤ}
use Rattle.exact.specs.Fraction.{Fraction, over, frac, whole, ◌≤F◌, ◌<F◌, ◌≈◌, ◌+F◌, ◌-F◌, Unit01}
use Rattle.exact.specs.Surface.{floor_f, part_f}
use Rattle.exact.proofs.Scale.{At, at_le, le_at, at_lt, lt_at, at_eq, eq_at, at_add, at_sub, over_pos, common}
use Rattle.exact.proofs.Near.{le_refl, lt_le, eq_le}
use Rattle.exact.proofs.Products.{eq_refl, back, at_zero, at_one, le_same, le_lt_trans}

-- ---- whole numbers: plusℤ k - minusℤ k
abbrev pub plusℤ : ℤ → ℕ
plusℤ (pos n) = n
plusℤ (negsuc n) = 0

abbrev pub minusℤ : ℤ → ℕ
minusℤ (pos n) = 0
minusℤ (negsuc n) = suc n

pub at_whole : (D : ℕ) (k : ℤ) → At D (whole k) (plusℤ k * D) (minusℤ k * D)
at_whole D (pos n) = record { at = omega arith }
at_whole D (negsuc n) = record { at = omega arith }

next_parts : (k : ℤ) → plusℤ (suc_ℤ k) + minusℤ k ≡ plusℤ k + minusℤ (suc_ℤ k) + 1
next_parts (pos n) = omega arith
next_parts (negsuc zero) = refl
next_parts (negsuc (suc n)) = omega arith

pub whole_next : (k : ℤ) → whole (suc_ℤ k) ≈ whole k +F frac 1 1
whole_next k =
    at_eq 1 (zero-lt-suc 0) (at_whole 1 (suc_ℤ k)) (at_add (at_whole 1 k) (at_one 1))
    (go (plusℤ (suc_ℤ k)) (minusℤ (suc_ℤ k)) (plusℤ k) (minusℤ k) (next_parts k))
  where
    go : (p n q m : ℕ) → p + m ≡ q + n + 1 → p * 1 + (m * 1 + 0) ≡ q * 1 + 1 + n * 1
    go p n q m h = omega arith

parts_only : (k j : ℤ) → plusℤ k + minusℤ j ≡ plusℤ j + minusℤ k → k ≡ j
parts_only (pos a) (pos b) h = ap pos (omega arith)
parts_only (pos a) (negsuc b) h = absurd (omega arith)
parts_only (negsuc a) (pos b) h = absurd (omega arith)
parts_only (negsuc a) (negsuc b) h = ap negsuc (omega arith)

-- ---- the floor
abbrev Floor : ℤ → Fraction → Type 0
Floor k x = (whole k ≤F x) × (x <F whole (suc_ℤ k))

above : (p m u k : ℕ) → m ≤ p → k * suc u ≤ p - m → p - m < k * suc u + suc u
    → Floor (pos k) (record { plus = p; minus = m; under = u })
above p m u k h a b = (record { le = omega arith }, record { lt = omega arith })

below : (p m u k : ℕ) → p < m → k * suc u ≤ m - p + u → m - p + u < k * suc u + suc u
    → Floor (neg_ℤ (pos k)) (record { plus = p; minus = m; under = u })
below p m u zero h a b = absurd (omega arith)
below p m u (suc zero) h a b = (record { le = omega arith }, record { lt = omega arith })
below p m u (suc (suc k)) h a b = (record { le = omega arith }, record { lt = omega arith })

floor_is : (x : Fraction) → Floor (floor_f x) x
unfolding floor_f
floor_is x = pick (leb x.minus x.plus) (leb→le x.minus x.plus) (nleb→lt x.minus x.plus)
  where
    pick : (t : Bool) → (T t → x.minus ≤ x.plus) → (T (not t) → x.plus < x.minus)
        → Floor (cond t (pos ((x.plus - x.minus) / over x)) (neg_ℤ (pos ((x.minus - x.plus + x.under) / over x)))) x
    pick true h k = above x.plus x.minus x.under ((x.plus - x.minus) / over x) (h tt)
        (div-mul-le_self (x.plus - x.minus) (over x)) (lt-div-mul-add (over_pos x))
    pick false h k =
        below x.plus x.minus x.under ((x.minus - x.plus + x.under) / over x) (k tt)
        (div-mul-le_self (x.minus - x.plus + x.under) (over x)) (lt-div-mul-add (over_pos x))

pub floor_le : (x : Fraction) → whole (floor_f x) ≤F x
floor_le x = (floor_is x).0

pub floor_lt : (x : Fraction) → x <F whole (suc_ℤ (floor_f x))
floor_lt x = (floor_is x).1

-- k < j + 1 is k ≤ j
within_one : (k j : ℤ) → whole k <F whole (suc_ℤ j) → plusℤ k + minusℤ j ≤ plusℤ j + minusℤ k
within_one k j h = go (plusℤ k) (minusℤ k) (plusℤ j) (minusℤ j) (plusℤ (suc_ℤ j)) (minusℤ (suc_ℤ j)) (next_parts j)
    (lt_at 1 (zero-lt-suc 0) (at_whole 1 k) (at_whole 1 (suc_ℤ j)) h)
  where
    go : (p n q m r s : ℕ) → r + m ≡ q + s + 1 → p * 1 + s * 1 < r * 1 + n * 1 → p + m ≤ q + n
    go p n q m r s h k = omega arith

pub floor_only : (x : Fraction) (k : ℤ) → whole k ≤F x → x <F whole (suc_ℤ k) → floor_f x ≡ k
floor_only x k h l =
    parts_only (floor_f x) k (go (plusℤ (floor_f x)) (minusℤ (floor_f x)) (plusℤ k) (minusℤ k)
    (within_one (floor_f x) k (le_lt_trans (floor_le x) l)) (within_one k (floor_f x) (le_lt_trans h (floor_lt x))))
  where
    go : (p n q m : ℕ) → p + m ≤ q + n → q + n ≤ p + m → p + m ≡ q + n
    go p n q m h k = omega arith

pub floor_same : {x y : Fraction} → x ≈ y → floor_f x ≡ floor_f y
floor_same {x} {y} h = floor_only x (floor_f y) (le_same (eq_refl (whole (floor_f y))) (back h) (floor_le y))
    (le_lt_trans (eq_le x y h) (floor_lt y))

pub floor_whole : (k : ℤ) → floor_f (whole k) ≡ k
floor_whole k =
    floor_only (whole k) k (le_refl (whole k) (whole k))
    (at_lt 1 (zero-lt-suc 0) (at_whole 1 k) (at_whole 1 (suc_ℤ k)) (let a = next_parts k in omega arith))

-- ---- what is left above it
pub part_add : (x : Fraction) → x ≈ whole (floor_f x) +F part_f x
unfolding part_f
part_add x = common (x ∷ [])
    (λ D D0 ((_, _, X), _). at_eq D D0 X (at_add (at_whole D (floor_f x)) (at_sub X (at_whole D (floor_f x))))
    (omega arith))

-- t is from 0 to below 1 where k ≤ k + t < k + 1
module _ (x t : Fraction) (k : ℤ) (h : x ≈ whole k +F t) where
  part_of : whole k ≤F x → x <F whole (suc_ℤ k) → (frac 0 1 ≤F t) × (t <F frac 1 1)
  part_of l u =
      common (x ∷ t ∷ whole k ∷ whole (suc_ℤ k) ∷ [])
      (λ D D0 ((_, _, X), ((_, _, T), ((_, _, K), ((_, _, J), _)))).
      let a = eq_at D D0 X (at_add K T) h in
      let b = eq_at D D0 J (at_add K (at_one D)) (whole_next k) in
      let c = le_at D D0 K X l in
      let d = lt_at D D0 X J u in
      (at_le D D0 (at_zero D) T (omega arith), at_lt D D0 T (at_one D) (omega arith)))

  split_ends : frac 0 1 ≤F t → t <F frac 1 1 → (whole k ≤F x) × (x <F whole (suc_ℤ k))
  split_ends l u =
      common (x ∷ t ∷ whole k ∷ whole (suc_ℤ k) ∷ [])
      (λ D D0 ((_, _, X), ((_, _, T), ((_, _, K), ((_, _, J), _)))).
      let a = eq_at D D0 X (at_add K T) h in
      let b = eq_at D D0 J (at_add K (at_one D)) (whole_next k) in
      let c = le_at D D0 (at_zero D) T l in
      let d = lt_at D D0 T (at_one D) u in
      (at_le D D0 K X (omega arith), at_lt D D0 X J (omega arith)))

  pub split_only : frac 0 1 ≤F t → t <F frac 1 1 → (floor_f x ≡ k) × (part_f x ≈ t)
  unfolding part_f
  split_only l u =
      let e : floor_f x ≡ k = floor_only x k (split_ends l u).0 (split_ends l u).1 in
      (e, subst (λ (j : ℤ). x -F whole j ≈ t) (sym e) rest)
    where
      rest : x -F whole k ≈ t
      rest = common (x ∷ t ∷ [])
          (λ D D0 ((_, _, X), ((_, _, T), _)). let a = eq_at D D0 X (at_add (at_whole D k) T) h in
          at_eq D D0 (at_sub X (at_whole D k)) T (omega arith))

pub part_lt : (x : Fraction) → part_f x <F frac 1 1
part_lt x = (part_of x (part_f x) (floor_f x) (part_add x) (floor_le x) (floor_lt x)).1

pub part_unit : (x : Fraction) → Unit01 (part_f x)
part_unit x = (
  (part_of x (part_f x) (floor_f x) (part_add x) (floor_le x) (floor_lt x)).0,
  lt_le (part_f x) (frac 1 1) (part_lt x),
)
