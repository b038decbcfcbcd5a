-- A row added by the code is the definition's next row, where its numbers and its right-hand side are the definition's:
-- for one row a pair and for two. Then the cases of what has a solution or none, and how many terms there can be.
-- Assumes nothing.
use Rattle.std.proofs.Common.{◌≡◌, ℕ, ◌+◌, ◌*◌, ◌≤◌, Bool, true, false, cond, eqb, ◌++◌, take, ap, ◌∙◌, lit≤}
use mathlib.Core.Path.{subst⁻¹}
use Rattle.arguments.specs.Method.{affine_terms}
use Rattle.arguments.specs.Order.{terms_of}
use Rattle.arguments.proofs.OrderLaws.{terms_range}
use lib.Ieee.{Float}
use Rattle.mappings.specs.declared.mapping.Mapping.{Mapping}
use Rattle.std.specs.Prelude.{Option, Some, None, Ok, Err, option_map, ok_or}
use Rattle.refusals.specs.declared.Refusal.{Refusal}
use Rattle.refusals.specs.declared.Refusal.TheVariants.{Degenerate}
use Rattle.refusals.specs.Number.{number}
use Rattle.mappings.specs.declared.mapping.Kind.{Kind}
use Rattle.mappings.specs.Mapping.{mapping, fitted, refused, solved_or8}
use Rattle.fit.specs.Fit.{both}
use Rattle.exact.specs.Vector.{Vector}
use Rattle.linear.specs.Matrix.{System}
use Rattle.linear.specs.Normal.{add_row, normal, in_turn}
use Rattle.linear.proofs.NormalLaws.{normal_next, normal_next_two}

same_row : {row r : Vector} {y z : Float} (n : ℕ) {s t : System} → row ≡ r → y ≡ z → s ≡ t
    → add_row row y n s ≡ add_row r z n t
same_row n e f h i = add_row (e i) (f i) n (h i)

pub row_added : (row_of : ℕ → Vector) (y_of : ℕ → Float) (n j : ℕ) {row : Vector} {y : Float} {s t : System}
    → row ≡ row_of j → y ≡ y_of j → s ≡ normal row_of y_of n j → t ≡ add_row row y n s → t ≡ normal row_of y_of n (j + 1)
row_added row_of y_of n j {s = s} e f h g = g ∙ same_row n e f (λ i. s) ∙ normal_next row_of y_of n j h

pub two_added : (f g : ℕ → Vector) (y z : ℕ → Float) (n j : ℕ) {row next : Vector} {a b : Float} {s t r : System}
    → row ≡ f j → a ≡ y j → next ≡ g j → b ≡ z j → s ≡ normal (in_turn f g) (in_turn y z) n (2 * j)
    → t ≡ add_row row a n s → r ≡ add_row next b n t → r ≡ normal (in_turn f g) (in_turn y z) n (2 * (j + 1))
two_added f g y z n j {s = s} e p e' q h u w = w ∙ same_row n e' q (u ∙ same_row n e p (λ i. s))
    ∙ normal_next_two f g y z n j h

-- ---- a solution or refusal 8, from what `ok_or` answers

pub some_8 : (o : Option Vector) (make : Vector → Mapping) (x : Vector) {m : Mapping} → Ok x ≡ ok_or o Degenerate
    → m ≡ make x → fitted m ≡ solved_or8 (option_map make o)
unfolding solved_or8
some_8 (Some y) make x e f = let h : x ≡ y = cc in ap fitted (f ∙ ap make h)
some_8 None make x e f = absurd (cc)

pub none_8 : (o : Option Vector) (make : Vector → Mapping) (r : Refusal) → Err r ≡ ok_or o Degenerate
    → refused (number r) ≡ solved_or8 (option_map make o)
unfolding solved_or8
none_8 (Some y) make r e = absurd (cc)
none_8 None make r e = let h : r ≡ Degenerate = cc in ap (λ (z : Refusal). refused (number z)) h

module _ (n : ℕ) (kind : Kind) (order : ℕ) where
  pub both_first : (o p : Option Vector) (r : Refusal) → Err r ≡ ok_or o Degenerate
      → refused (number r) ≡ both o p n kind order
  unfolding both
  both_first (Some y) p r e = absurd (cc)
  both_first None p r e = let h : r ≡ Degenerate = cc in ap (λ (z : Refusal). refused (number z)) h

  pub both_second : (o p : Option Vector) (x : Vector) (r : Refusal) → Ok x ≡ ok_or o Degenerate
      → Err r ≡ ok_or p Degenerate → refused (number r) ≡ both o p n kind order
  unfolding both
  both_second None p x r e f = absurd (cc)
  both_second (Some y) (Some z) x r e f = absurd (cc)
  both_second (Some y) None x r e f = let h : r ≡ Degenerate = cc in ap (λ (z : Refusal). refused (number z)) h

  pub both_found : (o p : Option Vector) (x y : Vector) {m : Mapping} → Ok x ≡ ok_or o Degenerate
      → Ok y ≡ ok_or p Degenerate → m ≡ mapping kind order (take n x ++ take n y) → fitted m ≡ both o p n kind order
  unfolding both
  both_found None p x y e f g = absurd (cc)
  both_found (Some a) None x y e f g = absurd (cc)
  both_found (Some a) (Some b) x y e f g =
      let h : x ≡ a = cc in
      let k : y ≡ b = cc in
      ap fitted (g ∙ (λ i. mapping kind order (take n (h i) ++ take n (k i))))

-- ---- there is room for an affine method's terms

few : (b : Bool) → cond b 4 3 ≤ 21
few true = lit≤ tt
few false = lit≤ tt

pub affine_terms_law : {n : ℕ} (pairs : ℕ) → n ≡ affine_terms pairs → n ≤ 21
unfolding affine_terms
affine_terms_law pairs e = subst⁻¹ (λ (k : ℕ). k ≤ 21) e (few (eqb pairs 2))

pub polynomial_terms : {n : ℕ} (order : Float) → n ≡ terms_of order → n ≤ 21
polynomial_terms order e = subst⁻¹ (λ (k : ℕ). k ≤ 21) e (terms_range order)
