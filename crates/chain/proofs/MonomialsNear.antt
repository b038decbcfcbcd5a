-- The rounded monomials and the exact ones are two lists made in step, so that each rounded one is its exact one but
-- for few roundings. Assumes nothing.
use mathlib.Core.Path.{◌≡◌, refl, ap}
use mathlib.Core.Bool.{Bool, true, false, cond}
use mathlib.Core.List.{List, [], ◌∷◌, ◌++◌}
use Prim.Native.Nat.{ℕ, zero, suc, ◌+◌, ◌-◌, ◌≤◌, ◌<◌, min}
use native.Mathlib.Nat.{not-suc-le-zero, le_of_suc-le-suc, min-le_right}
use native.Mathlib.Omega.{arith}
use lib.Dec.{eqb, lit≤}
use lib.ListN.{length, get_or}
use lib.Ieee.{Float}
use Rattle.exact.specs.Double.{◌⊗◌, one}
use Rattle.exact.specs.Loop.{up_to}
use Rattle.exact.specs.Fraction.{Fraction, frac, ◌*F◌}
use Rattle.exact.specs.Power.{power, pow_f}
use Rattle.exact.specs.Sums.{PixelCoordinate, Relative}
use Rattle.exact.proofs.Relative.{relative_one, relative_more}
use Rattle.exact.proofs.Powers.{coordinate_relative, monomial_relative, product_relative}
use Rattle.exact.specs.Vector.{Vector, at}
use Rattle.mappings.specs.Monomials.{push, of_degree, monomials}
use Rattle.mappings.proofs.LoopLaws.{up_to_both}
use Rattle.chain.specs.ExactPoint.{push_f, of_degree_f, monomials_f}

pub record Rounded (a : Float) (M : Fraction) : Type 0 where
  pub degree : ℕ
  pub near : Relative a M 10 degree

pub data Alike : Vector → List Fraction → Type 0 where
  none : Alike [] []
  more : {a : Float} {M : Fraction} {ms : Vector} {Ms : List Fraction} → Rounded a M → Alike ms Ms
      → Alike (a ∷ ms) (M ∷ Ms)

pub alike_length : {ms : Vector} {Ms : List Fraction} → Alike ms Ms → length ms ≡ length Ms
alike_length none = refl
alike_length (more r l) = ap suc (alike_length l)

pub alike_at : {ms : Vector} {Ms : List Fraction} → Alike ms Ms → (k : ℕ) → k < length Ms
    → Rounded (at ms k) (get_or Ms k (frac 0 1))
alike_at none k h = absurd (not-suc-le-zero h)
alike_at (more r l) zero h = r
alike_at (more r l) (suc k) h = alike_at l k (le_of_suc-le-suc h)

alike_push : {ms : Vector} {Ms : List Fraction} {a : Float} {M : Fraction} → Alike ms Ms → Rounded a M
    → Alike (ms ++ (a ∷ [])) (Ms ++ (M ∷ []))
alike_push none q = more q none
alike_push (more r l) q = more r (alike_push l q)

module _ {x y : Float} {X Y : Fraction} (c : PixelCoordinate x X) (d : PixelCoordinate y Y) where
  power_rounded : (i j : ℕ) → i + j ≤ 5 → Rounded (power x i ⊗ power y j) (pow_f X i *F pow_f Y j)
  power_rounded i j h = record { degree = i + j; near = monomial_relative c d i j h }

  alike_degree : (total : ℕ) (ms : Vector) (Ms : List Fraction) → total ≤ 5 → Alike ms Ms
      → Alike (of_degree x y total ms) (of_degree_f X Y total Ms)
  unfolding of_degree of_degree_f push push_f
  alike_degree total ms Ms h l =
      up_to_both (push x y total) (push_f X Y total) (λ (j : ℕ) (ms : Vector) (Ms : List Fraction). Alike ms Ms) 0 ms Ms
      (total + 1) (omega arith)
      (λ j ms Ms lo hi l. alike_push l (power_rounded (total - j) j (omega arith))) l

  pub alike_monomials : (order : ℕ) → Alike (monomials order x y) (monomials_f order X Y)
  unfolding monomials monomials_f
  alike_monomials order = go (eqb order 0)
    where
      few : Alike (one ∷ x ∷ y ∷ (x ⊗ y) ∷ []) (frac 1 1 ∷ X ∷ Y ∷ (X *F Y) ∷ [])
      few =
          more (record { degree = _; near = relative_more relative_one 10 (lit≤ tt) })
          (more (record { degree = _; near = relative_more (coordinate_relative c) 10 (lit≤ tt) })
          (more (record { degree = _; near = relative_more (coordinate_relative d) 10 (lit≤ tt) })
          (more (record { degree = _; near = relative_more (product_relative c d) 10 (lit≤ tt) }) none)))

      up : (n : ℕ) → n ≤ 5 → Alike (up_to (of_degree x y) 0 (n + 1) []) (up_to (of_degree_f X Y) 0 (n + 1) [])
      up n h =
          up_to_both (of_degree x y) (of_degree_f X Y) (λ (j : ℕ) (ms : Vector) (Ms : List Fraction). Alike ms Ms) 0 [] []
          (n + 1) (omega arith)
          (λ j ms Ms lo hi l. alike_degree j ms Ms (omega arith) l) none

      go : (t : Bool)
          → Alike (cond t (one ∷ x ∷ y ∷ (x ⊗ y) ∷ []) (up_to (of_degree x y) 0 (min order 5 + 1) []))
          (cond t (frac 1 1 ∷ X ∷ Y ∷ (X *F Y) ∷ []) (up_to (of_degree_f X Y) 0 (min order 5 + 1) []))
      go true = few
      go false = up (min order 5) (min-le_right order 5)
