-- The laws of the counted loops, by opening `turns` once: no turn, one turn more, the end, an early way out;
-- then what holds of a whole loop: a property that each turn keeps, equal steps, and a range cut in two.
-- Assumes nothing.
use mathlib.Core.Path.{◌≡◌, refl, sym, ap, ◌∙◌}
use Prim.Native.Nat.{ℕ, zero, suc, ◌+◌, ◌-◌, ◌≤◌, ◌<◌}
use native.Mathlib.Nat.{le_antisymm, add-zero, add-suc, add_assoc}
use native.Mathlib.Omega.{arith}
use Rattle.exact.specs.Loop.{turns, up_to, down_to}

sub_self : (n : ℕ) → n - n ≡ 0
sub_self n = omega arith

one_more : (lo k : ℕ) → lo ≤ k → k + 1 - lo ≡ suc (k - lo)
one_more lo k h = omega arith

back : (lo k : ℕ) → lo ≤ k → lo + (k - lo) ≡ k
back lo k h = omega arith

one_down : (k hi : ℕ) → k < hi → hi - k ≡ suc (hi - (k + 1))
one_down k hi h = omega arith

mirrored : (k hi : ℕ) → k < hi → hi - 1 - (0 + (hi - (k + 1))) ≡ k
mirrored k hi h = omega arith

two_parts : (lo mid hi : ℕ) → lo ≤ mid → mid ≤ hi → hi - lo ≡ (mid - lo) + (hi - mid)
two_parts lo mid hi h g = omega arith

-- ---- `turns`, with the step as a variable
module _ {A : Type 0} (step : ℕ → A → A) where
  turns_keep : (P : A → Type 0) (lo n : ℕ) (x : A) → ((j : ℕ) (y : A) → lo ≤ j → j < lo + n → P y → P (step j y)) → P x
      → P (turns step lo n x)
  unfolding turns
  turns_keep P lo zero x h p = p
  turns_keep P lo (suc n) x h p =
      h (lo + n) (turns step lo n x) (omega arith) (omega arith)
      (turns_keep P lo n x (λ j y a b. h j y a (omega arith)) p)

  turns_stay : (lo m n : ℕ) (x y : A) → ((j : ℕ) → step j y ≡ y) → turns step lo m x ≡ y → turns step lo (m + n) x ≡ y
  unfolding turns
  turns_stay lo m zero x y h e = ap (λ (k : ℕ). turns step lo k x) (add-zero m) ∙ e
  turns_stay lo m (suc n) x y h e =
      ap (λ (k : ℕ). turns step lo k x) (add-suc m n) ∙ ap (step (lo + (m + n))) (turns_stay lo m n x y h e)
      ∙ h (lo + (m + n))

  turns_join : (lo m n : ℕ) (x : A) → turns step lo (m + n) x ≡ turns step (lo + m) n (turns step lo m x)
  unfolding turns
  turns_join lo m zero x = ap (λ (k : ℕ). turns step lo k x) (add-zero m)
  turns_join lo m (suc n) x =
      ap (λ (k : ℕ). turns step lo k x) (add-suc m n)
      ∙ ap (λ (k : ℕ). step k (turns step lo (m + n) x)) (sym (add_assoc lo m n))
      ∙ ap (step (lo + m + n)) (turns_join lo m n x)

turns_same : {A : Type 0} (f g : ℕ → A → A) (lo n : ℕ) (x : A)
    → ((j : ℕ) (y : A) → lo ≤ j → j < lo + n → f j y ≡ g j y) → turns f lo n x ≡ turns g lo n x
unfolding turns
turns_same f g lo zero x h = refl
turns_same f g lo (suc n) x h =
    h (lo + n) (turns f lo n x) (omega arith) (omega arith)
    ∙ ap (g (lo + n)) (turns_same f g lo n x (λ j y a b. h j y a (omega arith)))

-- ---- counting up: the invariant at k is `y ≡ up_to step lo k x`
module _ {A : Type 0} (step : ℕ → A → A) (lo : ℕ) (x : A) where
  pub up_to_none : x ≡ up_to step lo lo x
  unfolding up_to
  up_to_none = ap (λ (n : ℕ). turns step lo n x) (sym (sub_self lo))

  pub up_to_next : (k : ℕ) {y : A} → lo ≤ k → y ≡ up_to step lo k x → step k y ≡ up_to step lo (k + 1) x
  unfolding up_to
  up_to_next k h e =
      ap (step k) e
      ∙ ap (λ (j : ℕ). step j (turns step lo (k - lo) x)) (sym (back lo k h))
      ∙ ap (λ (n : ℕ). turns step lo n x) (sym (one_more lo k h))

  pub up_to_last : (k n : ℕ) {y : A} → k ≤ n → n ≤ k → y ≡ up_to step lo k x → y ≡ up_to step lo n x
  up_to_last k n a b e = e ∙ ap (λ (j : ℕ). up_to step lo j x) (le_antisymm a b)

  -- an early way out: from y on no turn changes anything
  pub up_to_stay : (k n : ℕ) {y : A} → lo ≤ k → k ≤ n → ((j : ℕ) → step j y ≡ y) → y ≡ up_to step lo k x
      → y ≡ up_to step lo n x
  unfolding up_to
  up_to_stay k n {y} a b h e =
      sym (turns_stay step lo (k - lo) (n - k) x y h (sym e))
      ∙ ap (λ (j : ℕ). turns step lo j x) (sym (two_parts lo k n a b))

  -- what each turn keeps, the loop keeps
  pub up_to_keep : (P : A → Type 0) (hi : ℕ) → lo ≤ hi → ((j : ℕ) (y : A) → lo ≤ j → j < hi → P y → P (step j y)) → P x
      → P (up_to step lo hi x)
  unfolding up_to
  up_to_keep P hi le h p = turns_keep step P lo (hi - lo) x (λ j y a b. h j y a (omega arith)) p

  -- a range cut in two
  pub up_to_join : (mid hi : ℕ) → lo ≤ mid → mid ≤ hi → up_to step lo hi x ≡ up_to step mid hi (up_to step lo mid x)
  unfolding up_to
  up_to_join mid hi a b =
      ap (λ (n : ℕ). turns step lo n x) (two_parts lo mid hi a b)
      ∙ turns_join step lo (mid - lo) (hi - mid) x
      ∙ ap (λ (j : ℕ). turns step j (hi - mid) (turns step lo (mid - lo) x)) (back lo mid a)

-- two steps that agree on the range
pub up_to_same : {A : Type 0} (f g : ℕ → A → A) (lo hi : ℕ) (x : A) → lo ≤ hi
    → ((j : ℕ) (y : A) → lo ≤ j → j < hi → f j y ≡ g j y) → up_to f lo hi x ≡ up_to g lo hi x
unfolding up_to
up_to_same f g lo hi x le h = turns_same f g lo (hi - lo) x (λ j y a b. h j y a (omega arith))

-- ---- counting down: the invariant at k, with turns hi - 1 down to k made, is `y ≡ down_to step k hi x`
module _ {A : Type 0} (step : ℕ → A → A) (hi : ℕ) (x : A) where
  pub down_to_none : x ≡ down_to step hi hi x
  unfolding down_to turns
  down_to_none = ap (λ (n : ℕ). turns (λ (n : ℕ). step (hi - 1 - n)) 0 n x) (sym (sub_self hi))

  pub down_to_next : (k : ℕ) {y : A} → k < hi → y ≡ down_to step (k + 1) hi x → step k y ≡ down_to step k hi x
  unfolding down_to turns
  down_to_next k h e =
      let f : ℕ → A → A = λ (n : ℕ). step (hi - 1 - n) in
      ap (step k) e
      ∙ ap (λ (j : ℕ). step j (turns f 0 (hi - (k + 1)) x)) (sym (mirrored k hi h))
      ∙ ap (λ (n : ℕ). turns f 0 n x) (sym (one_down k hi h))

  pub down_to_last : (k n : ℕ) {y : A} → k ≤ n → n ≤ k → y ≡ down_to step k hi x → y ≡ down_to step n hi x
  down_to_last k n a b e = e ∙ ap (λ (j : ℕ). down_to step j hi x) (le_antisymm a b)
