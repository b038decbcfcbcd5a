-- Without signs the order of floats is the order of their patterns, the infinity's included, with a NaN above all:
-- finite values by their sizes, which grow with the patterns, and the infinity and the NaNs by hand. Provides:
-- `worth_grows`, `pattern_order`. Assumes nothing.
use mathlib.Core.Path.{◌≡◌, refl, sym, ap, ◌∙◌, subst}
use mathlib.Core.Logic.{◌⊎◌, inl, inr}
use mathlib.Core.Bool.{true, false, true≢false}
use Prim.Native.Nat.{ℕ, zero, suc, ◌+◌, ◌-◌, ◌*◌, ◌/◌, ◌%◌, ◌^◌, ◌≤◌, ◌<◌}
use native.Mathlib.Nat.{
  le_trans,
  le_of_eq,
  le_of_lt,
  le_of_suc-le-suc,
  lt_of_lt_of_le,
  lt_of_le_of_lt,
  eq-or-lt_of_le,
  zero-add,
  mul-one,
  mul_assoc,
  mul-le-mul_left,
  mul-le-mul_right,
  mul-lt-mul_of_pos_right,
  mod-eq_of_lt,
  mod-lt,
  div-add-mod',
  pow-succ',
}
use native.Mathlib.Omega.{arith}
use lib.Dec.{leb}
use lib.Pow.{pow_pos, pow_mono, shr_mono}
use lib.Ieee.{Float, nan, inf, fin, Format, prec, low, hid, top, of_bits, le}
use lib.Ieee.Exact.{HasValue}
use borrow.Author.Tests.{le-leb, lt-leb}
use Rattle.exact.proofs.Formats.{infinite, hid_pos}
use Rattle.exact.proofs.Naturals.{lt_or_le}
use Rattle.exact.proofs.Order.{sizes_order}
use Rattle.exact.proofs.Patterns.{lead, worth, pattern_value, pattern_infinity, pattern_nan}

-- ---- the size grows with the pattern: from one field to the next, h being the field's weight, and within a field with
-- the digits
lead_under : (h x t : ℕ) → t < h → lead h x t < h * 2 ^ x
lead_under h zero t l = subst (λ (n : ℕ). t < n) (sym (mul-one h)) l
lead_under h (suc x) t l =
    lt_of_lt_of_le (mul-lt-mul_of_pos_right (both h t l) (pow_pos x))
    (le_of_eq (mul_assoc h 2 (2 ^ x) ∙ ap (λ (n : ℕ). h * n) (sym (pow-succ' 2 x))))
  where
    both : (h t : ℕ) → t < h → h + t < h * 2
    both h t l = omega arith

fields_grow : (h x y t u : ℕ) → t < h → x < y → lead h x t < lead h y u
fields_grow h x zero t u l g = absurd (nothing x g)
  where
    nothing : (x : ℕ) → x < 0 → ⊥
    nothing x l = omega arith
fields_grow h x (suc y) t u l g =
    lt_of_lt_of_le (lead_under h x t l)
    (le_trans (mul-le-mul_left h (pow_mono (le_of_suc-le-suc g))) (mul-le-mul_right (2 ^ y) (more h u)))
  where
    more : (h t : ℕ) → h ≤ h + t
    more h t = omega arith

digits_grow : (h x t u : ℕ) → t < u → lead h x t < lead h x u
digits_grow h zero t u l = l
digits_grow h (suc x) t u l = mul-lt-mul_of_pos_right (more h t u l) (pow_pos x)
  where
    more : (h t u : ℕ) → t < u → h + t < h + u
    more h t u l = omega arith

-- the digits, where the fields agree: p is the field's weight times the field, in both
digits_apart : (a b p r s : ℕ) → p + r ≡ a → p + s ≡ b → a < b → r < s
digits_apart a b p r s d e l = omega arith

pub worth_grows : (f : Format) (a b : ℕ) → a < b → worth f a < worth f b
worth_grows f a b l = go (eq-or-lt_of_le (shr_mono (prec f - 1) (le_of_lt l)))
  where
    h : ℕ
    h = hid f

    go : (a / h ≡ b / h) ⊎ (a / h < b / h) → lead h (a / h) (a % h) < lead h (b / h) (b % h)
    go (inl e) =
        subst (λ (x : ℕ). lead h (a / h) (a % h) < lead h x (b % h)) e
        (digits_grow h (a / h) (a % h) (b % h)
        (digits_apart a b (a / h * h) (a % h) (b % h) (div-add-mod' a h) (ap (λ (x : ℕ). x * h + b % h) e
        ∙ div-add-mod' b h) l))
    go (inr g) = fields_grow h (a / h) (b / h) (a % h) (b % h) (mod-lt a (hid_pos f)) g

worth_leb : (f : Format) (a b : ℕ) → leb (worth f a) (worth f b) ≡ leb a b
worth_leb f a b = go (lt_or_le b a)
  where
    grown : (a ≡ b) ⊎ (a < b) → worth f a ≤ worth f b
    grown (inl e) = le_of_eq (ap (λ (x : ℕ). worth f x) e)
    grown (inr l) = le_of_lt (worth_grows f a b l)

    go : (b < a) ⊎ (a ≤ b) → leb (worth f a) (worth f b) ≡ leb a b
    go (inl h) = lt-leb (worth f a) (worth f b) (worth_grows f b a h) ∙ sym (lt-leb a b h)
    go (inr h) = le-leb (worth f a) (worth f b) (grown (eq-or-lt_of_le h)) ∙ sym (le-leb a b h)

-- ---- the infinity and the NaN
below_infinity : (x : Float) (a c : ℕ) → HasValue x false a c → (le x (inf false) ≡ true) × (le (inf false) x ≡ false)
unfolding le
below_infinity nan a c v = absurd v
below_infinity (inf s) a c v = absurd v
below_infinity (fin true m e) a c v = absurd (true≢false v.0)
below_infinity (fin false m e) a c v = (refl, refl)

infinity_itself : le (inf false) (inf false) ≡ true
unfolding le
infinity_itself = refl

nan_never : (y : Float) → le nan y ≡ false
unfolding le
nan_never y = refl

-- ---- the law, of patterns with no sign, the second no NaN's
pub pattern_order : (f : Format) (a b : ℕ) → a < top f → b ≤ infinite f → le (of_bits f a) (of_bits f b) ≡ leb a b
pattern_order f a b A B = go (lt_or_le (infinite f) a)
  where
    value : (p : ℕ) → p < infinite f → HasValue (of_bits f p) false (worth f p) (2 ^ low f)
    value p h = subst (λ (n : ℕ). HasValue (of_bits f n) false (worth f p) (2 ^ low f)) (zero-add p)
        (pattern_value f false p h)

    infinity : (p : ℕ) → p ≡ infinite f → of_bits f p ≡ inf false
    infinity p e = ap (of_bits f) (e ∙ sym (zero-add (infinite f))) ∙ pattern_infinity f false

    inner : (a ≡ infinite f) ⊎ (a < infinite f) → (b ≡ infinite f) ⊎ (b < infinite f)
        → le (of_bits f a) (of_bits f b) ≡ leb a b
    inner (inl d) (inl e) = (λ i. le (infinity a d i) (infinity b e i)) ∙ infinity_itself
        ∙ sym (le-leb a b (le_of_eq (d ∙ sym e)))
    inner (inl d) (inr l) =
        ap (λ (x : Float). le x (of_bits f b)) (infinity a d)
        ∙ (below_infinity (of_bits f b) (worth f b) (2 ^ low f) (value b l)).1
        ∙ sym (lt-leb a b (subst (λ (n : ℕ). b < n) (sym d) l))
    inner (inr k) (inl e) =
        ap (λ (x : Float). le (of_bits f a) x) (infinity b e)
        ∙ (below_infinity (of_bits f a) (worth f a) (2 ^ low f) (value a k)).0
        ∙ sym (le-leb a b (le_of_lt (subst (λ (n : ℕ). a < n) (sym e) k)))
    inner (inr k) (inr l) = sizes_order (of_bits f a) (of_bits f b) (worth f a) (worth f b) (2 ^ low f) (pow_pos (low f))
        (value a k) (value b l) ∙ worth_leb f a b

    go : (infinite f < a) ⊎ (a ≤ infinite f) → le (of_bits f a) (of_bits f b) ≡ leb a b
    go (inl h) =
        ap (λ (x : Float). le x (of_bits f b))
        (pattern_nan f a (subst (λ (n : ℕ). infinite f < n) (sym (mod-eq_of_lt A)) h)) ∙ nan_never (of_bits f b)
        ∙ sym (lt-leb a b (lt_of_le_of_lt B h))
    go (inr h) = inner (eq-or-lt_of_le h) (eq-or-lt_of_le B)
