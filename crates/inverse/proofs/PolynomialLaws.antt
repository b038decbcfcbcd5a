-- The sums over an array that holds the monomials are the sums over the monomials: zeros after them are not read. And
-- there are as many as the code counts: 4, or 3, 6, 10, 15 or 21 by the degree. Assumes nothing.
use mathlib.Core.Path.{◌≡◌, refl, sym, ap, ◌∙◌}
use Prim.Native.Nat.{ℕ, zero, suc, ◌-◌, ◌≤◌, min}
use native.Mathlib.Nat.{min-eq_right}
use native.Mathlib.Omega.{arith}
use lib.Dec.{lit≤}
use lib.ListN.{length, replicate, get_or-append}
use lib.Ieee.{Float, nan}
use borrow.Author.Tests.{ne_eqb}
use Rattle.exact.specs.Double.{◌⊕◌, ◌⊗◌}
use Rattle.exact.specs.Loop.{up_to, turns}
use Rattle.exact.proofs.Loop.{up_to_same}
use Rattle.exact.specs.Vector.{Vector}
use Rattle.linear.specs.Matrix.{nought}
use Rattle.mappings.specs.Padded.{padded}
use Rattle.mappings.specs.Monomials.{push, of_degree, up_to_degree, monomials}
use Rattle.point.specs.Point.{point}
use Rattle.inverse.specs.Polynomial.{dot, dots, of_u, of_v, terms, polynomial}

module _ (m : Vector) (c : ℕ → Float) (n : ℕ) (h : n ≤ length m) where
  pub dot_padded : dot (padded 21 m) c n ≡ dot m c n
  dot_padded =
      up_to_same _ _ 0 n nought (omega arith)
      (λ j s lo hi. ap (λ (a : Float). s ⊕ a ⊗ c j)
      (get_or-append m (replicate (21 - length m) nought) nan j (omega arith)))

-- an order that is not 0 is the degree, at most 5
pub monomials_degree : (order : ℕ) (x y : Float) → (order ≡ 0 → ⊥) → monomials order x y ≡ up_to_degree (min order 5) x y
unfolding monomials
monomials_degree order x y h = rw (ne_eqb order 0 h)

degree_length : (order d : ℕ) (x y : Float) → (order ≡ 0 → ⊥) → min order 5 ≡ d
    → length (monomials order x y) ≡ length (up_to_degree d x y)
degree_length order d x y h e = ap length (monomials_degree order x y h ∙ ap (λ (d : ℕ). up_to_degree d x y) e)

pub monomials_length : (order : ℕ) (x y : Float) → length (monomials order x y) ≡ terms order
unfolding terms up_to turns of_degree push
monomials_length zero x y = unfold monomials in refl
monomials_length (suc zero) x y = degree_length 1 1 x y (λ e. omega arith) refl
monomials_length (suc (suc zero)) x y = degree_length 2 2 x y (λ e. omega arith) refl
monomials_length (suc (suc (suc zero))) x y = degree_length 3 3 x y (λ e. omega arith) refl
monomials_length (suc (suc (suc (suc zero)))) x y = degree_length 4 4 x y (λ e. omega arith) refl
monomials_length (suc (suc (suc (suc (suc n))))) x y =
    degree_length (suc (suc (suc (suc (suc n))))) 5 x y (some n) (min-eq_right (above_four n))
  where
    some : (n : ℕ) → suc (suc (suc (suc (suc n)))) ≡ 0 → ⊥
    some n e = omega arith

    above_four : (n : ℕ) → 5 ≤ suc (suc (suc (suc (suc n))))
    above_four n = omega arith

pub terms_few : (order : ℕ) → terms order ≤ 21
unfolding terms
terms_few zero = lit≤ tt
terms_few (suc zero) = lit≤ tt
terms_few (suc (suc zero)) = lit≤ tt
terms_few (suc (suc (suc zero))) = lit≤ tt
terms_few (suc (suc (suc (suc zero)))) = lit≤ tt
terms_few (suc (suc (suc (suc (suc n))))) = lit≤ tt

pub same_point : {a b c d : Float} → a ≡ b → c ≡ d → point a c ≡ point b d
same_point e f = rw (e, f)

-- what the code works out, from what its calls ensure
pub dots_monomials : (order : ℕ) (coef : Vector) (x y : Float) (m : Vector) (n : ℕ)
    → m ≡ padded 21 (monomials order x y) → n ≡ terms order → dots m coef n ≡ polynomial order coef x y
unfolding polynomial
dots_monomials order coef x y m n em en =
    let l : n ≡ length (monomials order x y) = en ∙ sym (monomials_length order x y) in
    let enough : n ≤ length (monomials order x y) = omega arith in
    ap (λ (w : Vector). dots w coef n) em
    ∙ same_point (dot_padded (monomials order x y) (of_u coef) n enough)
    (dot_padded (monomials order x y) (of_v coef n) n enough)
    ∙ ap (dots (monomials order x y) coef) l
