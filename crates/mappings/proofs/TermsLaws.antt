-- The monomials by their numbers: of each degree from 1 to 5 the definition computes to the list of its exponents'
-- monomials. Assumes nothing.
use mathlib.Core.Path.{◌≡◌, refl, ap, ◌∙◌, subst⁻¹}
use mathlib.Core.List.{List, [], ◌∷◌, map}
use Prim.Native.Nat.{ℕ, zero, suc, ◌+◌, ◌*◌, ◌/◌, ◌≤◌, ◌<◌}
use native.Mathlib.Nat.{not-suc-le-zero, le_of_suc-le-suc}
use native.Mathlib.Omega.{arith}
use lib.ListN.{length, get_or, take, length-map}
use lib.Seq.{get_or-take, length-take-le}
use lib.Ieee.{Float, nan}
use Rattle.exact.specs.Loop.{turns, up_to}
use Rattle.exact.specs.Vector.{Vector, at}
use Rattle.mappings.specs.Monomials.{push, of_degree, monomials, exponents, monomial, monomial_at}

-- an element of a list that was mapped
mapped : {A B : Type 0} (f : A → B) (l : List A) (k : ℕ) (d : A) (b : B) → k < length l
    → get_or (map f l) k b ≡ f (get_or l k d)
mapped f [] k d b h = absurd (not-suc-le-zero h)
mapped f (x ∷ l) zero d b h = refl
mapped f (x ∷ l) (suc k) d b h = mapped f l k d b (le_of_suc-le-suc h)

abbrev count : ℕ → ℕ
count n = (n + 1) * (n + 2) / 2

module _ (x y : Float) where
  pub of_exponents : (n : ℕ) → 1 ≤ n → n ≤ 5 → monomials n x y ≡ map (monomial x y) (take (count n) exponents)
  unfolding monomials of_degree push up_to turns
  of_exponents zero h g = absurd (not-suc-le-zero h)
  of_exponents (suc zero) h g = refl
  of_exponents (suc (suc zero)) h g = refl
  of_exponents (suc (suc (suc zero))) h g = refl
  of_exponents (suc (suc (suc (suc zero)))) h g = refl
  of_exponents (suc (suc (suc (suc (suc zero))))) h g = refl
  of_exponents (suc (suc (suc (suc (suc (suc n)))))) h g = absurd (beyond n g)
    where
      beyond : (n : ℕ) → suc (suc (suc (suc (suc (suc n))))) ≤ 5 → ⊥
      beyond n g = omega arith

  few : (n : ℕ) → n ≤ 5 → count n ≤ length exponents
  few zero g = omega arith
  few (suc zero) g = omega arith
  few (suc (suc zero)) g = omega arith
  few (suc (suc (suc zero))) g = omega arith
  few (suc (suc (suc (suc zero)))) g = omega arith
  few (suc (suc (suc (suc (suc zero))))) g = omega arith
  few (suc (suc (suc (suc (suc (suc n)))))) g = omega arith

  pub terms_count : (n : ℕ) → 1 ≤ n → n ≤ 5 → length (monomials n x y) ≡ count n
  terms_count n h g = ap length (of_exponents n h g) ∙ length-map (take (count n) exponents) (monomial x y)
      ∙ length-take-le (count n) exponents (few n g)

  pub term_at : (n k : ℕ) → 1 ≤ n → n ≤ 5 → k < count n → at (monomials n x y) k ≡ monomial_at x y k
  term_at n k h g l =
      ap (λ (v : Vector). at v k) (of_exponents n h g)
      ∙ mapped (monomial x y) (take (count n) exponents) k (0, 0) nan
      (subst⁻¹ (λ (c : ℕ). k < c) (length-take-le (count n) exponents (few n g)) l)
      ∙ ap (monomial x y) (get_or-take (count n) exponents k (0, 0) l)
