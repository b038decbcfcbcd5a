-- What the code does to the array is what the definition does to the list: a store at the end of the padded list for a
-- push, in step. Assumes nothing.
use mathlib.Core.Path.{◌≡◌, refl, sym, ap, ◌∙◌}
use mathlib.Core.List.{[], ◌∷◌}
use Prim.Native.Nat.{ℕ, zero, suc, ◌+◌, ◌-◌, ◌*◌, ◌≤◌, ◌<◌}
use native.Mathlib.Nat.{mul-le-mul}
use native.Mathlib.Omega.{arith}
use lib.ListN.{length, set, replicate, length-append}
use lib.Ieee.{Float}
use Rattle.exact.specs.Double.{◌⊗◌}
use Rattle.exact.specs.Loop.{up_to}
use Rattle.exact.specs.Power.{power}
use Rattle.exact.proofs.Loop.{up_to_none, up_to_next}
use Rattle.exact.specs.Vector.{Vector, at}
use Rattle.linear.specs.Matrix.{nought}
use Rattle.mappings.specs.Padded.{padded}
use Rattle.mappings.specs.Monomials.{term, push, of_degree, powers, store_term}
use Rattle.mappings.proofs.LoopLaws.{up_to_both}
use Rattle.mappings.proofs.PaddedLaws.{padded_push}

powers_at : (x : Float) (k : ℕ) → k ≤ 5 → at (powers x) k ≡ power x k
powers_at x zero h = refl
powers_at x (suc zero) h = refl
powers_at x (suc (suc zero)) h = refl
powers_at x (suc (suc (suc zero))) h = refl
powers_at x (suc (suc (suc (suc zero)))) h = refl
powers_at x (suc (suc (suc (suc (suc zero))))) h = refl
powers_at x (suc (suc (suc (suc (suc (suc k)))))) h = absurd (beyond k h)
  where
    beyond : (k : ℕ) → suc (suc (suc (suc (suc (suc k))))) ≤ 5 → ⊥
    beyond k h = omega arith

module _ (x y : Float) (start total : ℕ) (small : total ≤ 5) (room : start + total + 1 ≤ 21) where
  -- the list so far in the array, and as long as it should be
  abbrev InStep : ℕ → Vector → Vector → Type 0
  InStep j m out = (m ≡ padded 21 out) × (length out ≡ start + j)

  one_more : (j : ℕ) (m out : Vector) → 0 ≤ j → j < total + 1 → InStep j m out
      → InStep (j + 1) (store_term (powers x) (powers y) start total j m) (push x y total j out)
  unfolding store_term push
  one_more j m out lo hi s = (
    ap (λ (l : Vector). set l (start + j) (at (powers x) (total - j) ⊗ at (powers y) j)) s.0
        ∙ ap (λ (k : ℕ). set (padded 21 out) k (at (powers x) (total - j) ⊗ at (powers y) j)) (sym s.1)
        ∙ ap (λ (v : Float). set (padded 21 out) (length out) (v ⊗ at (powers y) j))
        (powers_at x (total - j) (omega arith))
        ∙ ap (λ (v : Float). set (padded 21 out) (length out) (power x (total - j) ⊗ v)) (powers_at y j (omega arith))
        ∙ padded_push 21 out (term x y total j) (fits (length out) s.1),
    length-append out (term x y total j ∷ []) ∙ ap (λ (k : ℕ). k + 1) s.1 ∙ more start j,
  )
    where
      fits : (l : ℕ) → l ≡ start + j → l < 21
      fits l e = omega arith

      more : (a b : ℕ) → a + b + 1 ≡ a + (b + 1)
      more a b = omega arith

  pub degree_put : (out : Vector) → length out ≡ start
      → (up_to (store_term (powers x) (powers y) start total) 0 (total + 1) (padded 21 out) ≡ padded 21
      (of_degree x y total out)) × (length (of_degree x y total out) ≡ start + (total + 1))
  unfolding of_degree
  degree_put out e =
      up_to_both (store_term (powers x) (powers y) start total) (push x y total) InStep 0 (padded 21 out) out (total + 1)
      (omega arith) one_more (refl, e ∙ none start)
    where
      none : (k : ℕ) → k ≡ k + 0
      none k = omega arith

-- ---- places: a degree starts at total (total + 1) / 2, and there are 21 up to degree 5
pub places : (start total : ℕ) → 2 * start ≡ total * (total + 1) → total ≤ 5 → start + total + 1 ≤ 21
places start total e h = omega (arith, mul-le-mul h (plus_one total h))
  where
    plus_one : (t : ℕ) → t ≤ 5 → t + 1 ≤ 6
    plus_one t h = omega arith

pub next_place : (start total : ℕ) → 2 * start ≡ total * (total + 1)
    → 2 * (start + total + 1) ≡ (total + 1) * (total + 1 + 1)
next_place start total e = omega arith

-- ---- a turn of the loop over the degrees

pub record Filled (x y : Float) (m : Vector) (start total : ℕ) : Type 0 where
  pub held : m ≡ padded 21 (up_to (of_degree x y) 0 total [])
  pub long : length (up_to (of_degree x y) 0 total []) ≡ start
  pub place : 2 * start ≡ total * (total + 1)

module _ (x y : Float) where
  pub filled_none : Filled x y (replicate 21 nought) 0 0
  filled_none = record {
    held = ap (padded 21) (up_to_none (of_degree x y) 0 []);
    long = sym (ap length (up_to_none (of_degree x y) 0 []));
    place = refl;
  }

  pub filled_next : (px py m m' : Vector) (start total : ℕ) → px ≡ powers x → py ≡ powers y → total ≤ 5
      → Filled x y m start total → m' ≡ up_to (store_term px py start total) 0 (total + 1) m
      → Filled x y m' (start + total + 1) (total + 1)
  filled_next px py m m' start total ex ey small f e =
      let put : (up_to (store_term (powers x) (powers y) start total) 0 (total + 1)
      (padded 21 (up_to (of_degree x y) 0 total [])) ≡ padded 21
      (of_degree x y total (up_to (of_degree x y) 0 total [])))
      × (length (of_degree x y total (up_to (of_degree x y) 0 total [])) ≡ start + (total + 1)) =
      degree_put x y start total small (places start total f.place small) (up_to (of_degree x y) 0 total [])
      f.long in
      let next : of_degree x y total (up_to (of_degree x y) 0 total []) ≡ up_to (of_degree x y) 0 (total + 1) [] =
      up_to_next (of_degree x y) 0 [] total (omega arith) refl in
      record {
        held =
            e
            ∙ ap (λ (l : Vector). up_to (store_term l py start total) 0 (total + 1) m) ex
            ∙ ap (λ (l : Vector). up_to (store_term (powers x) l start total) 0 (total + 1) m) ey
            ∙ ap (λ (l : Vector). up_to (store_term (powers x) (powers y) start total) 0 (total + 1) l) f.held
            ∙ put.0
            ∙ ap (padded 21) next;
        long = sym (ap length next) ∙ put.1 ∙ more start total;
        place = next_place start total f.place;
      }
    where
      more : (a b : ℕ) → a + (b + 1) ≡ a + b + 1
      more a b = omega arith
