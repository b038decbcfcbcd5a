-- A difference of integers, taken apart once, by signs: it is at most 0 where the test says so, and else a count within
-- bounds. Assumes nothing.
use Rattle.std.proofs.Common.{◌≡◌, ℕ, zero, suc, ◌+◌, ◌-◌, ◌≤◌, Bool, true, false, leb, ◌⊎◌, ℤ, pos, negsuc, ◌-ℤ◌, nat_abs, sym, refl, ap, ◌∙◌, subst, inl, inr, true≢false, arith, le-leb}
use borrow.Author.Tests.{lt-leb}
use lib.IntN.{sub_ℕ}
use lib.Signed.{le_z}
use lib.Dec.{leb-suc-suc}
use Rattle.exact.proofs.Floor.{plusℤ}
use Rattle.number.proofs.FloorNear.{sub_split}
use Rattle.window.specs.Extent.{at_least_one}

-- ---- y - z: at most 0 where y ≤ z, and else a count that is p = plusℤ y, but for n = |z| at most
pub record Count (δ : ℤ) (p n : ℕ) : Type 0 where
  pub d : ℕ
  pub is : δ ≡ pos (suc d)
  pub most : suc d ≤ p + n
  pub least : p ≤ suc d + n

abbrev pub Diff : Bool → ℤ → ℕ → ℕ → Type 0
Diff b δ p n = ((b ≡ true) × (at_least_one δ ≡ 1)) ⊎ ((b ≡ false) × Count δ p n)

one_zero : at_least_one (pos 0) ≡ 1
unfolding at_least_one
one_zero = refl

one_negative : (n : ℕ) → at_least_one (negsuc n) ≡ 1
unfolding at_least_one
one_negative n = refl

pub one_positive : (n : ℕ) → at_least_one (pos (suc n)) ≡ suc n
unfolding at_least_one
one_positive n = refl

-- a - k of naturals, tested as a ≤ k
module _ (a k p n : ℕ) (most : a ≤ p + n) (least : p ≤ a - k + n) where
  diff_nat : Diff (leb a k) (sub_ℕ a k) p n
  diff_nat = elim (sub_split a k) [
    | inl (zero, e, i) ↦ inl (le-leb a k (omega arith), ap at_least_one i ∙ one_zero)
    | inl (suc j, e, i) ↦ inr
        (lt-leb a k (omega arith), record { d = j; is = i; most = omega arith; least = omega arith })
    | inr (j, e, i) ↦ inl (le-leb a k (omega arith), ap at_least_one i ∙ one_negative j)
  ]

zero_less : (a : ℕ) → at_least_one (sub_ℕ 0 (suc a)) ≡ 1
zero_less a = elim (sub_split 0 (suc a)) [
  | inl (j, e, i) ↦ absurd (none a j e)
  | inr (j, e, i) ↦ ap at_least_one i ∙ one_negative j
]
  where
    none : (a j : ℕ) → 0 ≡ suc a + j → ⊥
    none a j e = omega arith

pub diff : (y z : ℤ) → Diff (le_z y z) (y -ℤ z) (plusℤ y) (nat_abs z)
diff (pos zero) (pos zero) = inl (refl, one_zero)
diff (pos (suc a)) (pos zero) =
    inr (
      lt-leb (suc a) 0 (omega arith),
      record { d = a; is = ap pos (more a); most = omega arith; least = omega arith },
    )
  where
    more : (a : ℕ) → suc a + 0 ≡ suc a
    more a = omega arith
diff (pos a) (pos (suc b)) = diff_nat a (suc b) a (suc b) (omega arith) (omega arith)
diff (pos a) (negsuc b) =
    inr (refl, record { d = a + b; is = ap pos (more a b); most = omega arith; least = omega arith })
  where
    more : (a b : ℕ) → a + suc b ≡ suc (a + b)
    more a b = omega arith
diff (negsuc a) (pos zero) = inl (refl, zero_less a)
diff (negsuc a) (pos (suc b)) = inl (refl, one_negative (suc (a + b)))
diff (negsuc a) (negsuc b) =
    subst (λ (t : Bool). Diff t (sub_ℕ (suc b) (suc a)) 0 (suc b)) (leb-suc-suc b a)
    (diff_nat (suc b) (suc a) 0 (suc b) (omega arith) (omega arith))

-- the two ways apart
pub diff_low : (y z : ℤ) → le_z y z ≡ true → at_least_one (y -ℤ z) ≡ 1
diff_low y z h = elim (diff y z) [
  | inl (e, i) ↦ i
  | inr (e, c) ↦ absurd (true≢false (sym h ∙ e))
]

pub diff_high : (y z : ℤ) → le_z y z ≡ false → Count (y -ℤ z) (plusℤ y) (nat_abs z)
diff_high y z h = elim (diff y z) [
  | inl (e, i) ↦ absurd (true≢false (sym e ∙ h))
  | inr (e, c) ↦ c
]
