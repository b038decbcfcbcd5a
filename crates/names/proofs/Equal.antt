-- Bytes and a name are compared: unlike lengths are not the same, and of like ones all pairs are where the two are.
-- Assumes nothing.
use Rattle.std.proofs.Common.{◌≡◌, refl, ap, Bool, true, false, cond, List, [], ◌∷◌, map, ℕ, suc, length, eqb, arith}
use Rattle.std.proofs.lemmas.List.{length-map}
use Rattle.std.specs.Char.{to_ascii_lowercase}
use Rattle.std.specs.List.{list_all, zip}
use Rattle.std.specs.Prelude.{◌==◌, ◌&&◌}
use Rattle.std.proofs.lemmas.Bool.Decides.{nat_tests}
use Rattle.names.specs.Names.{lowercase, equal, same_name}

cond_false : (b : Bool) (x : Bool) → x ≡ false → cond b x false ≡ false
cond_false true x e = e
cond_false false x e = refl

equal_length : (x y : List ℕ) → (length x ≡ length y → ⊥) → equal x y ≡ false
unfolding equal
equal_length [] [] h = absurd (h refl)
equal_length [] (b ∷ y) h = refl
equal_length (a ∷ x) [] h = refl
equal_length (a ∷ x) (b ∷ y) h = cond_false (eqb a b) (equal x y) (equal_length x y (λ e. h (ap suc e)))

pub same_length : (s name : List ℕ) → (length s ≡ length name → ⊥) → same_name s name ≡ false
unfolding same_name
same_length s name h = equal_length (map lowercase s) name (λ e. h (rw length-map at e))

-- the code's tests, one for each pair of bytes
abbrev pub AllSame : List ℕ → List ℕ → Bool
AllSame s name = list_all (λ (p : ℕ × ℕ). to_ascii_lowercase p.0 == p.1) (zip s name)

lowers : (b : ℕ) → to_ascii_lowercase b ≡ lowercase b
unfolding lowercase
lowers b = grind (arith, nat_tests)

pub all_same : (s name : List ℕ) → length s ≡ length name → AllSame s name ≡ same_name s name
unfolding same_name equal
all_same [] [] e = refl
all_same [] (n ∷ name) e = cc
all_same (b ∷ s) [] e = cc
all_same (b ∷ s) (n ∷ name) e =
    let shorter : length s ≡ length name = omega (arith, e) in
    rw (lowers b, all_same s name shorter) (both (eqb (lowercase b) n) (equal (map lowercase s) name))
  where
    both : (t u : Bool) → (t && u) ≡ cond t u false
    both true u = refl
    both false u = refl
